use Rattle.std.proofs.Common.{◌≡◌, ◌++◌, ◌∙◌, List, ℕ, rules, refl, ap}
use Rattle.std.specs.Prelude.{Ok, Err}
use Rattle.wf_trail.specs.declared.fault.TrailFault.TheVariants as f
use Rattle.wf_trail.proofs.Texts.{first_fails, second_fails, memory_fails, both_stand}
use Rattle.wf_trail.proofs.shelf.append_rest.Goals as goal

pub returns-in_err-text : goal.returns-in_err-text
returns-in_err-text c =
    let is : c.from_residual.result ≡ Err c.in_err-text.field-0.0 = search rules in
    let both = first_fails c.args.text c.args.rest c.from_residual.result c.in_err-text.field-0.0 c.in_err-text.was is in
    record { text = both.text; cause = both.cause; both = both.both; unit = both.unit }

pub returns-in_err-rest : goal.returns-in_err-rest
returns-in_err-rest c =
    let is : c.from_residual-in_err-rest.result ≡ Err c.in_err-rest.field-0.0 = search rules in
    let both = second_fails c.args.text c.args.rest c.from_residual-in_err-rest.result c.in_ok-text.text c.in_err-rest.field-0.0 c.in_ok-text.was c.in_err-rest.was is in
    record { text = both.text; cause = both.cause; both = both.both; unit = both.unit }

pub returns-in_err-append : goal.returns-in_err-append
returns-in_err-append c =
    let is : c.from_residual-in_err-append.result ≡ Err f.NoMemory = search rules in
    let both = memory_fails c.args.text c.args.rest c.from_residual-in_err-append.result is in
    record { text = both.text; cause = both.cause; both = both.both; unit = both.unit }

pub returns : goal.returns
returns c =
    let joined : c.append.new.self ≡ c.in_ok-text.text ++ c.in_ok-rest.rest = c.in_ok-append.ensures.ok ∙ ap (λ (t : List ℕ). c.in_ok-text.text ++ t) c.as_slice.ensures in
    let both = both_stand c.args.text c.args.rest (Ok c.append.new.self) c.in_ok-text.text c.in_ok-rest.rest c.append.new.self c.in_ok-text.was c.in_ok-rest.was refl joined in
    record { text = both.text; cause = both.cause; both = both.both; unit = both.unit }
