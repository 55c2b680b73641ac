use Rattle.std.proofs.Common.{ℕ, Vec, ap, ◌∙◌}
use Rattle.std.specs.Str.{bytes_eq}
use Rattle.std.specs.declared.alloc.Global.{Global}
use Rattle.wf_cursor.specs.Names.{declared_as}
use Rattle.wf_cursor.proofs.Known.{lookup-shown}
use Rattle.wf_cursor.proofs.names.Names.get.Goals as goal

pub returns : goal.returns
returns c =
    c.copied.ensures ∙ c.get.ensures.value
    ∙ lookup-shown (λ (k : Vec ℕ Global). k.items) (bytes_eq c.args.name.now) c.self.inside.known.entries
    ∙ ap (λ names. declared_as names c.args.name.now) c.self.view_is
