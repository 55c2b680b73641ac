-- The answers to a completion, by what is known of the item.
use Rattle.std.proofs.Common.{◌≡◌, ℕ, ◌==◌, not, Bool, true, false, List, Option, Some, None, Ok, Err, refl, sym, ap, arith, eq-eqb}
use Rattle.std.proofs.lemmas.Bool.Decides.{nat_tests}
use Rattle.wf_model.specs.declared.ids.ActId.{ActId}
use Rattle.wf_model.specs.declared.ids.VarId.{VarId}
use Rattle.wf_model.specs.declared.value.Sort.{Sort}
use Rattle.wf_model.specs.declared.outer.Output.{Output}
use Rattle.wf_model.specs.declared.outer.OuterFault.TheVariants.{NoItem, AlreadyDone, WrongOutput}
use Rattle.wf_semantics.specs.Items.{Item, item_at}
use Rattle.wf_semantics.specs.Admission.{is_of, is_closed}
use Rattle.wf_activities.specs.UnitItems.{is_open}
use Rattle.wf_activities.specs.Completing.{are_wanted, may_complete}
use Rattle.wf_activities.proofs.Joined.{seen}

of_none : (a : ℕ) (o : Option Item) → None ≡ seen o → is_of a o ≡ false
of_none a None e = refl
of_none a (Some i) e = absurd (differ (i.act, i.closed) e)
  where
    differ : (p : ActId × Bool) → None ≡ Some p → ⊥
    differ p q = cc

of_some : (a : ℕ) (o : Option Item) (b : ActId) (closed : Bool) → Some (b, closed) ≡ seen o → (is_of a o ≡ (b.0 == a)) × (is_closed o ≡ closed) × (is_open o ≡ not closed)
of_some a None b closed e = absurd (differ (b, closed) e)
  where
    differ : (p : ActId × Bool) → Some p ≡ None → ⊥
    differ p q = cc
of_some a (Some i) b closed e =
    let pair : ◌≡◌ {A = ActId × Bool} (b, closed) (i.act, i.closed) = cc in
    (ap (λ (p : ActId × Bool). p.0.0 == a) (sym pair), ap (λ (p : ActId × Bool). p.1) (sym pair), ap (λ (p : ActId × Bool). not p.1) (sym pair))

module _ (items : List Item) (n : ℕ) (a : ActId) (outputs : List Output) (wanted : List (VarId × Sort)) where
  pub no_item : None ≡ seen (item_at items n) → Err NoItem ≡ may_complete items n a outputs wanted
  unfolding may_complete
  no_item e = rw (of_none a.0 (item_at items n) e) refl

  module _ (b : ActId) (closed : Bool) (known : ◌≡◌ {A = Option (ActId × Bool)} (Some (b, closed)) (seen (item_at items n))) where
    of : is_of a.0 (item_at items n) ≡ (b.0 == a.0)
    of = (of_some a.0 (item_at items n) b closed known).0

    bit : is_closed (item_at items n) ≡ closed
    bit = (of_some a.0 (item_at items n) b closed known).1

    pub other_act : (b.0 ≡ a.0 → ⊥) → Err NoItem ≡ may_complete items n a outputs wanted
    unfolding may_complete
    other_act h = let no : (b.0 == a.0) ≡ false = grind (arith, nat_tests) in rw (of, no) refl

    pub already_done : b.0 ≡ a.0 → closed ≡ true → Err AlreadyDone ≡ may_complete items n a outputs wanted
    unfolding may_complete
    already_done h k = rw (of, eq-eqb b.0 a.0 h, bit, k) refl

    pub wrong_output : b.0 ≡ a.0 → closed ≡ false → are_wanted wanted outputs ≡ false → Err WrongOutput ≡ may_complete items n a outputs wanted
    unfolding may_complete
    wrong_output h k o = rw (of, eq-eqb b.0 a.0 h, bit, k, o) refl

    pub passed : b.0 ≡ a.0 → closed ≡ false → are_wanted wanted outputs ≡ true → Ok tt ≡ may_complete items n a outputs wanted
    unfolding may_complete
    passed h k o = rw (of, eq-eqb b.0 a.0 h, bit, k, o) refl
