use Rattle.std.proofs.Common.{ℕ, Vec, refl, ap, ◌∙◌, ◌∷◌, [], ◌++◌}
use Rattle.std.specs.Str.{bytes_eq}
use Rattle.std.specs.declared.alloc.Global.{Global}
use Rattle.wf_cursor.specs.Names.{declared_as}
use Rattle.wf_cursor.proofs.Known.{shown-more}
use Rattle.wf_cursor.proofs.names.Names.declare.Goals as goal

pub returns : goal.returns
returns c =
    record {
      ok = shown-more (λ (k : Vec ℕ Global). k.items) (λ (a b : Vec ℕ Global). bytes_eq a.items b.items) c.self.inside.known c.in_ok-key.key c.args.what c.args.name.now c.insert.new.self.entries
          (λ k. refl) c.in_ok-key.ensures.items (ap (λ names. declared_as names c.args.name.now) c.self.view_is ∙ c.requires) c.in_ok-insert.ensures.entries
          ∙ ap (λ names. names ++ (c.args.name.now, c.args.what) ∷ []) c.self.view_is;
      err = tt;
    }
