use Rattle.std.proofs.Common.{◌≡◌, ℕ, ◌≤◌, ◌∙◌, subst, sym, ap, ap₂, arith, length, min, cond, Bool, true≢false}
use Rattle.std.specs.Prelude.{List, Some, Result, Ok, Err, IsOk, OnOk, nat_eq}
use Rattle.std.specs.HashMap.{get, spare}
use Rattle.wf_semantics.specs.Items.{Item}
use Rattle.wf_steps.specs.Room.{Replicated}
use Rattle.wf_steps.specs.Growing.{MayAdmit}
use Rattle.wf_steps.specs.Replicas.{MayClose}
use Rattle.wf_steps.proofs.Rules.{lets_close}
use Rattle.wf_steps.proofs.Stepping.{admitted_is, eqb_comm}
use Rattle.wf_steps.proofs.replica.Replica.admit.Goals as goal

pub close_item-requires : goal.close_item-requires
close_item-requires c =
    let P : Replicated → Type 0 = λ s. MayAdmit s.part s.past (record { request = c.args.request; outer = c.args.outer }) in
    let may : MayAdmit c.self.inside.part c.self.inside.history.past (record { request = c.args.request; outer = c.args.outer }) = subst P (sym c.self.view_is) c.requires.may in
    let Q : List Item → Type 0 = λ l. MayClose c.args.outer l in
    subst Q (sym c.self.invariant.items_are) (lets_close c.self.inside.part c.self.inside.history.past c.args.outer may.lets)

on_ok : {T E : Type 0} (r : Result T E) (P : Type 0) → IsOk r → OnOk r P → P
on_ok (Ok x) P is p = p
on_ok (Err e) P is p = absurd (true≢false (sym is))

pub invariant_of-self : goal.invariant_of-self
invariant_of-self c =
    let P : Replicated → Type 0 = λ s. MayAdmit s.part s.past (record { request = c.args.request; outer = c.args.outer }) in
    let may : MayAdmit c.self.inside.part c.self.inside.history.past (record { request = c.args.request; outer = c.args.outer }) = subst P (sym c.self.view_is) c.requires.may in
    let Q : Replicated → Type 0 = λ s. 1 ≤ s.admit_room in
    let room : 1 ≤ min c.self.inside.history.admit_room (spare c.self.inside.index) = subst Q (sym c.self.view_is) c.requires.room in
    let updates = on_ok c.insert.result _ (c.insert.ensures.succeeds (omega (arith, room))) c.insert.ensures.updates in
    let place : length c.admissions-place.result.now ≡ length c.self.inside.history.past.admissions = ap length c.admissions-place.ensures in
    admitted_is c.self.inside.part c.self.inside.acts c.self.inside.history.past c.self.inside.view c.self.inside.items c.self.inside.last c.self.inside.next c.self.inside.sealed (get nat_eq c.self.inside.index) c.self.invariant
    c.args.request c.args.outer may c.close_item.new.items (get nat_eq c.insert.new.self) c.close_item.ensures.items c.close_item.ensures.steps
    (λ q. updates.0 q ∙ ap₂ (λ (b : Bool) (k : ℕ). cond b (Some k) (get nat_eq c.self.inside.index q)) (eqb_comm c.args.request q) place) c.admit.new.self.past c.admit.ensures.past
