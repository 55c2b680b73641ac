use Rattle.std.proofs.Common.{◌≡◌, ◌∙◌, List, Result, Ok, sym, ap, subst}
use Rattle.std.specs.Result.{OnOk}
use Rattle.wf_model.specs.declared.outer.Entry.{Entry}
use Rattle.wf_semantics.specs.Admission.{is_pending}
use Rattle.wf_central.proofs.Finding.{found_still, found_none, found_more}
use Rattle.wf_central.proofs.pending.Pending.push.Goals as goal

-- what a call that answered Ok has promised
on_ok : {T E : Type 0} (r : Result T E) (x : T) (P : Type 0) → r ≡ Ok x → OnOk r P → P
on_ok {T} {E} r x P e h = subst (λ (q : Result T E). OnOk q P) e h

pub invariant_of-self-in_err-push : goal.invariant_of-self-in_err-push
invariant_of-self-in_err-push c = λ u n.
    found_still c.self.inside.completing.keys c.reserve.new.self.keys c.self.inside.entries c.self.invariant c.in_ok-reserve.ensures.keys.2 u n
    ∙ ap (λ (es : List Entry). is_pending es u n) (sym c.in_err-push.ensures.err)

pub invariant_of-self-in-Some : goal.invariant_of-self-in-Some
invariant_of-self-in-Some c =
    let found = found_still c.self.inside.completing.keys c.reserve.new.self.keys c.self.inside.entries c.self.invariant c.in_ok-reserve.ensures.keys.2 in
    let updates = on_ok c.insert.result c.unwrap.result _ c.unwrap.ensures c.insert.ensures.updates in
    found_more c.reserve.new.self.keys c.insert.new.self.keys c.self.inside.entries c.push.new.self c.args.entry c.in-Some.key found c.in_ok-push.ensures.ok c.in-Some.ensures updates.0

pub invariant_of-self-in_default : goal.invariant_of-self-in_default
invariant_of-self-in_default c =
    let found = found_still c.self.inside.completing.keys c.reserve.new.self.keys c.self.inside.entries c.self.invariant c.in_ok-reserve.ensures.keys.2 in
    found_none c.reserve.new.self.keys c.self.inside.entries c.push.new.self c.args.entry found c.in_ok-push.ensures.ok c.in_default.ensures
