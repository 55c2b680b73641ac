-- The test of updates tells whether they are one.
use Rattle.std.proofs.Common.{◌≡◌, ℕ, ◌==◌, ◌&&◌, Bool, true, false, List, [], refl, ap}
use Rattle.std.specs.Prelude.{ℤ, nat_eq}
use Rattle.std.specs.Bool.{Decides}
use Rattle.std.specs.Cmp.{unsigned_Decides}
use Rattle.std.specs.Cmp.Lexicographic.{pointwise}
use Rattle.std.proofs.lemmas.Bool.Decides.{Decides-eqb, Decides-int_eq, Decides-and, Decides-like}
use Rattle.std.proofs.lemmas.Slice.Eq.{slice_eq-Decides}
use Rattle.wf_model.specs.declared.ids.StateId.{StateId}
use Rattle.wf_model.specs.declared.ids.EventId.{EventId}
use Rattle.wf_model.specs.declared.ids.TransId.{TransId}
use Rattle.wf_model.specs.declared.value.Val.{Val}
use Rattle.wf_model.specs.declared.value.Val.TheVariants as v
use Rattle.wf_model.specs.declared.outer.Output.{Output}
use Rattle.wf_model.specs.declared.outer.Outer.{Outer}
use Rattle.wf_model.specs.declared.outer.Outer.TheVariants.{Happen, Complete}
use Rattle.wf_model.specs.declared.update.Write.{Write}
use Rattle.wf_model.specs.declared.update.StartAt.{StartAt}
use Rattle.wf_model.specs.declared.update.Update.{Update}
use Rattle.wf_model.specs.Ids.{state_id, event_id, trans_id, var_id, act_id, unit_id}
use Rattle.wf_model.specs.Values.{is_equal}
use Rattle.wf_machine.specs.Lines.{same_output, same_outer}
use Rattle.wf_agreement.specs.Same.{same_write, same_start, same_update}

val_Decides : (x y : Val) → Decides (is_equal x y) (x ≡ y)
val_Decides (v.Bool false) (v.Bool false) = (λ e. refl, λ e. refl)
val_Decides (v.Bool false) (v.Bool true) = (λ e. cc, λ e. cc)
val_Decides (v.Bool true) (v.Bool false) = (λ e. cc, λ e. cc)
val_Decides (v.Bool true) (v.Bool true) = (λ e. refl, λ e. refl)
val_Decides (v.Bool false) (v.Int n) = (λ e. cc, λ e. cc)
val_Decides (v.Bool true) (v.Int n) = (λ e. cc, λ e. cc)
val_Decides (v.Bool false) (v.Text t) = (λ e. cc, λ e. cc)
val_Decides (v.Bool true) (v.Text t) = (λ e. cc, λ e. cc)
val_Decides (v.Int m) (v.Bool b) = (λ e. cc, λ e. cc)
val_Decides (v.Int m) (v.Int n) = (λ e. let same : m ≡ n = (Decides-int_eq m n).0 e in ap (λ (z : ℤ). v.Int z) same, λ e. let same : m ≡ n = cc in (Decides-int_eq m n).1 same)
val_Decides (v.Int m) (v.Text t) = (λ e. cc, λ e. cc)
val_Decides (v.Text s) (v.Bool b) = (λ e. cc, λ e. cc)
val_Decides (v.Text s) (v.Int n) = (λ e. cc, λ e. cc)
val_Decides (v.Text s) (v.Text t) =
    let told : Decides (pointwise nat_eq s t) (s ≡ t) = slice_eq-Decides unsigned_Decides s t (pointwise nat_eq s t) refl in
    (λ e. ap (λ (cs : List ℕ). v.Text cs) (told.0 e), λ e. let same : s ≡ t = cc in told.1 same)

-- lists are one where their items are
lists : {A : Type 0} (same : A → A → Bool) → ((x y : A) → Decides (same x y) (x ≡ y)) → (xs ys : List A) → Decides (pointwise same xs ys) (xs ≡ ys)
lists same each xs ys = slice_eq-Decides each xs ys (pointwise same xs ys) refl

state_Decides : (s t : StateId) → Decides (s.0 == t.0) (s ≡ t)
state_Decides s t = Decides-like (s.0 == t.0) (λ (e : s.0 ≡ t.0). ap state_id e) (λ (e : s ≡ t). ap (λ (x : StateId). x.0) e) (Decides-eqb s.0 t.0)

event_Decides : (d e : EventId) → Decides (d.0 == e.0) (d ≡ e)
event_Decides d e = Decides-like (d.0 == e.0) (λ (q : d.0 ≡ e.0). ap event_id q) (λ (q : d ≡ e). ap (λ (x : EventId). x.0) q) (Decides-eqb d.0 e.0)

trans_Decides : (s t : TransId) → Decides (s.0 == t.0) (s ≡ t)
trans_Decides s t = Decides-like (s.0 == t.0) (λ (e : s.0 ≡ t.0). ap trans_id e) (λ (e : s ≡ t). ap (λ (x : TransId). x.0) e) (Decides-eqb s.0 t.0)

output_Decides : (o p : Output) → Decides (same_output o p) (o ≡ p)
output_Decides o p =
    Decides-like (same_output o p) (λ (h : (o.var.0 ≡ p.var.0) × (o.val ≡ p.val)). λ i. record { var = var_id (h.0 i); val = h.1 i })
    (λ (e : o ≡ p). (ap (λ (x : Output). x.var.0) e, ap (λ (x : Output). x.val) e))
    (Decides-and (o.var.0 == p.var.0) (is_equal o.val p.val) (Decides-eqb o.var.0 p.var.0) (val_Decides o.val p.val))

abbrev number_of : Outer → ℕ
number_of (Happen e) = e.0
number_of (Complete n a outputs) = a.0

abbrev item_of : Outer → ℕ
item_of (Happen e) = 0
item_of (Complete n a outputs) = n

abbrev outputs_of : Outer → List Output
outputs_of (Happen e) = []
outputs_of (Complete n a outputs) = outputs

outer_Decides : (x y : Outer) → Decides (same_outer x y) (x ≡ y)
outer_Decides (Happen e) (Happen f) = Decides-like (e.0 == f.0) (λ (q : e.0 ≡ f.0). ap (λ (n : ℕ). Happen (event_id n)) q) (λ (q : Happen e ≡ Happen f). ap number_of q) (Decides-eqb e.0 f.0)
outer_Decides (Happen e) (Complete n a outputs) = (λ q. cc, λ q. cc)
outer_Decides (Complete n a outputs) (Happen e) = (λ q. cc, λ q. cc)
outer_Decides (Complete n a outputs) (Complete m b given) =
    Decides-like (same_outer (Complete n a outputs) (Complete m b given))
    (λ (h : (n ≡ m) × ((a.0 ≡ b.0) × (outputs ≡ given))). λ i. Complete (h.0 i) (act_id (h.1.0 i)) (h.1.1 i))
    (λ (q : Complete n a outputs ≡ Complete m b given). (ap item_of q, (ap number_of q, ap outputs_of q)))
    (Decides-and (n == m) ((a.0 == b.0) && pointwise same_output outputs given) (Decides-eqb n m)
    (Decides-and (a.0 == b.0) (pointwise same_output outputs given) (Decides-eqb a.0 b.0) (lists same_output output_Decides outputs given)))

write_Decides : (a b : Write) → Decides (same_write a b) (a ≡ b)
write_Decides a b =
    Decides-like (same_write a b)
    (λ (h : (a.var.0 ≡ b.var.0) × ((a.trans.0 ≡ b.trans.0) × (a.val ≡ b.val))). λ i. record { var = var_id (h.0 i); trans = trans_id (h.1.0 i); val = h.1.1 i })
    (λ (e : a ≡ b). (ap (λ (w : Write). w.var.0) e, (ap (λ (w : Write). w.trans.0) e, ap (λ (w : Write). w.val) e)))
    (Decides-and (a.var.0 == b.var.0) ((a.trans.0 == b.trans.0) && is_equal a.val b.val) (Decides-eqb a.var.0 b.var.0)
    (Decides-and (a.trans.0 == b.trans.0) (is_equal a.val b.val) (Decides-eqb a.trans.0 b.trans.0) (val_Decides a.val b.val)))

start_Decides : (a b : StartAt) → Decides (same_start a b) (a ≡ b)
start_Decides a b =
    Decides-like (same_start a b)
    (λ (h : (a.act.0 ≡ b.act.0) × ((a.trans.0 ≡ b.trans.0) × (a.place ≡ b.place))). λ i. record { act = act_id (h.0 i); trans = trans_id (h.1.0 i); place = h.1.1 i })
    (λ (e : a ≡ b). (ap (λ (s : StartAt). s.act.0) e, (ap (λ (s : StartAt). s.trans.0) e, ap (λ (s : StartAt). s.place) e)))
    (Decides-and (a.act.0 == b.act.0) ((a.trans.0 == b.trans.0) && (a.place == b.place)) (Decides-eqb a.act.0 b.act.0)
    (Decides-and (a.trans.0 == b.trans.0) (a.place == b.place) (Decides-eqb a.trans.0 b.trans.0) (Decides-eqb a.place b.place)))

abbrev same_states : List StateId → List StateId → Bool
same_states xs ys = pointwise (λ s t. s.0 == t.0) xs ys

abbrev same_events : List EventId → List EventId → Bool
same_events xs ys = pointwise (λ d e. d.0 == e.0) xs ys

abbrev same_fired : List TransId → List TransId → Bool
same_fired xs ys = pointwise (λ s t. s.0 == t.0) xs ys

module _ (a b : Update) where
  outers_next : Decides (same_fired a.fired b.fired && pointwise same_outer a.outer b.outer) ((a.fired ≡ b.fired) × (a.outer ≡ b.outer))
  outers_next = Decides-and (same_fired a.fired b.fired) (pointwise same_outer a.outer b.outer) (lists (λ s t. s.0 == t.0) trans_Decides a.fired b.fired) (lists same_outer outer_Decides a.outer b.outer)

  starts_next : Decides (pointwise same_start a.starts b.starts && (same_fired a.fired b.fired && pointwise same_outer a.outer b.outer)) ((a.starts ≡ b.starts) × ((a.fired ≡ b.fired) × (a.outer ≡ b.outer)))
  starts_next = Decides-and (pointwise same_start a.starts b.starts) (same_fired a.fired b.fired && pointwise same_outer a.outer b.outer) (lists same_start start_Decides a.starts b.starts) outers_next

  pub update_Decides : Decides (same_update a b) (a ≡ b)
  unfolding same_update
  update_Decides =
      Decides-like (same_update a b)
      (λ (h : (a.from.0 ≡ b.from.0) × ((a.step ≡ b.step) × ((a.flips ≡ b.flips) × ((a.writes ≡ b.writes) × ((a.raised ≡ b.raised) × ((a.starts ≡ b.starts) × ((a.fired ≡ b.fired) × (a.outer ≡ b.outer)))))))).
      λ i. record { from = unit_id (h.0 i); step = h.1.0 i; flips = h.1.1.0 i; writes = h.1.1.1.0 i; raised = h.1.1.1.1.0 i; starts = h.1.1.1.1.1.0 i; fired = h.1.1.1.1.1.1.0 i; outer = h.1.1.1.1.1.1.1 i })
      (λ (e : a ≡ b).
      (ap (λ (u : Update). u.from.0) e, (ap (λ (u : Update). u.step) e, (ap (λ (u : Update). u.flips) e, (ap (λ (u : Update). u.writes) e, (ap (λ (u : Update). u.raised) e, (ap (λ (u : Update). u.starts) e, (ap (λ (u : Update). u.fired) e, ap (λ (u : Update). u.outer) e))))))))
      (Decides-and (a.from.0 == b.from.0) _ (Decides-eqb a.from.0 b.from.0)
      (Decides-and (a.step == b.step) _ (Decides-eqb a.step b.step)
      (Decides-and (same_states a.flips b.flips) _ (lists (λ s t. s.0 == t.0) state_Decides a.flips b.flips)
      (Decides-and (pointwise same_write a.writes b.writes) _ (lists same_write write_Decides a.writes b.writes)
      (Decides-and (same_events a.raised b.raised) _ (lists (λ d e. d.0 == e.0) event_Decides a.raised b.raised) starts_next)))))
