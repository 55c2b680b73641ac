-- What is cut of an update that is in range is in range.
use Rattle.std.proofs.Common.{◌≡◌, ℕ, suc, ◌<◌, ◌≤◌, ◌||◌, cond, Bool, true, false, List, [], ◌∷◌, length, filter, filter_map, Option, Some, None, inl, inr, sym, ◌∙◌, subst, arith}
use Rattle.std.specs.Prelude.{◌⊎◌, ◌==◌, find, Result, Ok, Err, IfOk}
use Rattle.std.specs.List.{list_any, cons_option, AllByRecursion}
use Rattle.wf_model.specs.declared.outer.Outer.{Outer}
use Rattle.wf_model.specs.declared.outer.Outer.TheVariants.{Happen, Complete}
use Rattle.wf_model.specs.declared.update.StartAt.{StartAt}
use Rattle.wf_model.specs.declared.update.Update.{Update}
use Rattle.wf_codec.specs.Ranges.{InOrder, IsEarlier, IsOuter, chart_numbers, IsInRange}
use Rattle.wf_parts.specs.Peers.{Knowledge}
use Rattle.wf_views.specs.Knowledge.{cut_outer}
use Rattle.wf_views.specs.Relevant.{cut_update, is_listed, nothing, relevant}
use Rattle.wf_parts.specs.declared.data.Known.{Known}
use Rattle.std.specs.Option.{option_map_or}
use Rattle.wf_owns.proofs.Ranged.{filter_short}

filter_all : {A : Type 0} (P : A → Type 0) (p : A → Bool) (xs : List A) → AllByRecursion P xs → AllByRecursion P (filter p xs)
filter_all P p [] all = tt
filter_all P p (x ∷ xs) all = go (p x) all.0 (filter_all P p xs all.1)
  where
    go : (b : Bool) → P x → AllByRecursion P (filter p xs) → AllByRecursion P (cond b (x ∷ filter p xs) (filter p xs))
    go true here rest = (here, rest)
    go false here rest = rest

weaken : {A : Type 0} (P Q : A → Type 0) → ((x : A) → P x → Q x) → (xs : List A) → AllByRecursion P xs → AllByRecursion Q xs
weaken P Q to [] all = tt
weaken P Q to (x ∷ xs) all = (to x all.0, weaken P Q to xs all.1)

-- AN ORDER THAT GOES ON stays where some are left out
module _ {A : Type 0} (R : A → A → Type 0) (trans : (x y z : A) → R x y → R y z → R x z) where
  above : (x : A) (xs : List A) → InOrder R (x ∷ xs) → AllByRecursion (R x) xs
  above x [] order = tt
  above x (y ∷ ys) order = (order.0, weaken (R y) (R x) (λ z later. trans x y z order.0 later) ys (above y ys order.1))

  push_front : (x : A) (xs : List A) → AllByRecursion (R x) xs → InOrder R xs → InOrder R (x ∷ xs)
  push_front x [] all order = tt
  push_front x (y ∷ ys) all order = (all.0, order)

  rest_of : (x : A) (xs : List A) → InOrder R (x ∷ xs) → InOrder R xs
  rest_of x [] order = tt
  rest_of x (y ∷ ys) order = order.1

  filter_order : (p : A → Bool) (xs : List A) → InOrder R xs → InOrder R (filter p xs)
  filter_order p [] order = tt
  filter_order p (x ∷ xs) order = go (p x) (filter_all (R x) p xs (above x xs order)) (filter_order p xs (rest_of x xs order))
    where
      go : (b : Bool) → AllByRecursion (R x) (filter p xs) → InOrder R (filter p xs) → InOrder R (cond b (x ∷ filter p xs) (filter p xs))
      go true all rest = push_front x (filter p xs) all rest
      go false all rest = rest

below_all : {A : Type 0} (number : A → ℕ) (x y z : A) → number x < number y → number y < number z → number x < number z
below_all number x y z a b = omega arith

earlier_all : (x y z : StartAt) → IsEarlier x y → IsEarlier y z → IsEarlier x z
earlier_all x y z (inl a) (inl b) = inl (omega (arith, a, b))
earlier_all x y z (inl a) (inr b) = let e = b.0 in inl (omega (arith, a, e))
earlier_all x y z (inr a) (inl b) = let e = a.0 in inl (omega (arith, e, b))
earlier_all x y z (inr a) (inr b) = let l = a.1 in let m = b.1 in inr (a.0 ∙ b.0, omega (arith, l, m))

module _ (known : Knowledge) where
  cut_fits : (outer : Outer) (rest : List Outer) → IsOuter chart_numbers outer → AllByRecursion (IsOuter chart_numbers) rest → AllByRecursion (IsOuter chart_numbers) (cons_option (cut_outer known outer) rest)
  cut_fits (Happen e) rest fits all = go (known.events e.0)
    where
      go : (b : Bool) → AllByRecursion (IsOuter chart_numbers) (cons_option (cond b (Some (Happen e)) None) rest)
      go true = (fits, all)
      go false = all
  cut_fits (Complete item a outputs) rest fits all = go (known.acts a.0 || list_any (λ o. known.vars o.var.0) outputs)
    where
      go : (b : Bool) → AllByRecursion (IsOuter chart_numbers) (cons_option (cond b (Some (Complete item a (filter (λ o. known.vars o.var.0) outputs))) None) rest)
      go true =
          let short = filter_short (λ o. known.vars o.var.0) outputs in
          let few = fits.2 in
          ((fits.0, fits.1, omega (arith, short, few), filter_all (λ o. o.var.0 < chart_numbers.vars) (λ o. known.vars o.var.0) outputs fits.3), all)
      go false = all

  cuts_fit : (outers : List Outer) → AllByRecursion (IsOuter chart_numbers) outers → AllByRecursion (IsOuter chart_numbers) (filter_map (cut_outer known) outers)
  cuts_fit [] all = tt
  cuts_fit (x ∷ xs) all = cut_fits x (filter_map (cut_outer known) xs) all.0 (cuts_fit xs all.1)

  cuts_short : (outers : List Outer) → length (filter_map (cut_outer known) outers) ≤ length outers
  cuts_short [] = omega arith
  cuts_short (x ∷ xs) = go (cut_outer known x) (cuts_short xs)
    where
      go : (o : Option Outer) → length (filter_map (cut_outer known) xs) ≤ length xs → length (cons_option o (filter_map (cut_outer known) xs)) ≤ suc (length xs)
      go None ih = omega (arith, ih)
      go (Some y) ih = omega (arith, ih)

  pub cut_in_range : (u : Update) → IsInRange u → IsInRange (cut_update known u)
  unfolding cut_update
  cut_in_range u range = record {
    from = range.from;
    step = range.step;
    flips = filter_all _ (λ s. known.states s.0) u.flips range.flips;
    flips_ascend = filter_order _ (below_all (λ s. s.0)) (λ s. known.states s.0) u.flips range.flips_ascend;
    writes = filter_all _ (λ write. known.vars write.var.0) u.writes range.writes;
    writes_ascend = filter_order _ (below_all (λ w. w.var.0)) (λ write. known.vars write.var.0) u.writes range.writes_ascend;
    raised = filter_all _ (λ e. known.events e.0) u.raised range.raised;
    raised_ascend = filter_order _ (below_all (λ e. e.0)) (λ e. known.events e.0) u.raised range.raised_ascend;
    starts = filter_all _ (λ start. known.acts start.act.0) u.starts range.starts;
    starts_ascend = filter_order IsEarlier earlier_all (λ start. known.acts start.act.0) u.starts range.starts_ascend;
    starts_few = let short = filter_short (λ start. known.acts start.act.0) u.starts in let few = range.starts_few in omega (arith, short, few);
    fired = tt;
    fired_ascend = tt;
    fired_few = omega arith;
    outer = cuts_fit u.outer range.outer;
    outer_few = let short = cuts_short u.outer in let few = range.outer_few in omega (arith, short, few);
  }

-- so is what a peer is sent
pub range_of : {E : Type 0} (peers : List Known) (update : Update) (v : ℕ) (r : Result Update E) → IsInRange update → IfOk r (λ cut. cut ≡ relevant peers update v) → IfOk r IsInRange
range_of peers update v (Ok cut) range is = subst IsInRange (sym is) (cut_in_range (option_map_or is_listed (find (λ known. known.unit.0 == v) peers) nothing) update range)
range_of peers update v (Err e) range is = tt
