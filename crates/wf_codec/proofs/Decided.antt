-- Truths that decide the ranges of an update.
use Rattle.std.proofs.Common.{◌≡◌, ℕ, ◌<◌, ◌≤◌, ◌==◌, ◌&&◌, nat_lt, nat_le, Bool, true, List, [], ◌∷◌, length, refl, inl, inr, arith, eqb-true, eq-eqb}
use Rattle.std.specs.List.{list_all, AllByRecursion}
use Rattle.std.proofs.lemmas.Bool.Decides.{nat_tests}
use Rattle.wf_model.proofs.Bools.{and_both, and_true, or_cases, or_left, or_right}
use Rattle.wf_model.specs.declared.outer.Outer.{Outer}
use Rattle.wf_model.specs.declared.outer.Outer.TheVariants.{Happen, Complete}
use Rattle.wf_model.specs.declared.update.Write.{Write}
use Rattle.wf_model.specs.declared.update.StartAt.{StartAt}
use Rattle.wf_model.specs.declared.update.Update.{Update}
use Rattle.wf_codec.specs.Ranges.{InOrder, IsEarlier, IsWrite, IsStart, IsOuter, IsInRange, chart_numbers}
use Rattle.wf_codec.specs.Deciding.{are_in_order, is_earlier, is_state, is_event, is_transition, is_write, is_start, is_output, is_outer, is_sent, flips_in, writes_in, raised_in, starts_in, fired_in, outer_in, are_changes, are_rest, is_whole}

lt_of : (a b : ℕ) → nat_lt a b ≡ true → a < b
lt_of a b h = grind (arith, nat_tests)

of_lt : (a b : ℕ) → a < b → nat_lt a b ≡ true
of_lt a b h = grind (arith, nat_tests)

le_of : (a b : ℕ) → nat_le a b ≡ true → a ≤ b
le_of a b h = grind (arith, nat_tests)

of_le : (a b : ℕ) → a ≤ b → nat_le a b ≡ true
of_le a b h = grind (arith, nat_tests)

-- each item of a list

all_of : {A : Type 0} (p : A → Bool) (P : A → Type 0) → ((x : A) → p x ≡ true → P x) → (xs : List A) → list_all p xs ≡ true → AllByRecursion P xs
all_of p P f [] h = tt
all_of p P f (x ∷ xs) h = let b = and_both (p x) (list_all p xs) h in (f x b.0, all_of p P f xs b.1)

of_all : {A : Type 0} (p : A → Bool) (P : A → Type 0) → ((x : A) → P x → p x ≡ true) → (xs : List A) → AllByRecursion P xs → list_all p xs ≡ true
of_all p P f [] h = refl
of_all p P f (x ∷ xs) h = and_true (p x) (list_all p xs) (f x h.0) (of_all p P f xs h.1)

-- each pair of neighbours

order_of : {A : Type 0} (r : A → A → Bool) (R : A → A → Type 0) → ((x y : A) → r x y ≡ true → R x y) → (xs : List A) → are_in_order r xs ≡ true → InOrder R xs
order_of r R f [] h = tt
order_of r R f (x ∷ []) h = tt
order_of r R f (x ∷ (y ∷ ys)) h = let b = and_both (r x y) (are_in_order r (y ∷ ys)) h in (f x y b.0, order_of r R f (y ∷ ys) b.1)

of_order : {A : Type 0} (r : A → A → Bool) (R : A → A → Type 0) → ((x y : A) → R x y → r x y ≡ true) → (xs : List A) → InOrder R xs → are_in_order r xs ≡ true
of_order r R f [] h = refl
of_order r R f (x ∷ []) h = refl
of_order r R f (x ∷ (y ∷ ys)) h = and_true (r x y) (are_in_order r (y ∷ ys)) (f x y h.0) (of_order r R f (y ∷ ys) h.1)

-- several truths

and3 : (a b c : Bool) → (a && b && c) ≡ true → (a ≡ true) × (b ≡ true) × (c ≡ true)
and3 a b c h = let x = and_both (a && b) c h in let y = and_both a b x.0 in (y.0, y.1, x.1)

all3 : (a b c : Bool) → a ≡ true → b ≡ true → c ≡ true → (a && b && c) ≡ true
all3 a b c h k l = and_true (a && b) c (and_true a b h k) l

-- one item

write_of : (w : Write) → is_write w ≡ true → IsWrite w
write_of w h = let x = and_both (nat_lt w.var.0 128) (nat_lt w.trans.0 1024) h in (lt_of w.var.0 128 x.0, lt_of w.trans.0 1024 x.1)

of_write : (w : Write) → IsWrite w → is_write w ≡ true
of_write w h = and_true (nat_lt w.var.0 128) (nat_lt w.trans.0 1024) (of_lt w.var.0 128 h.0) (of_lt w.trans.0 1024 h.1)

start_of : (s : StartAt) → is_start s ≡ true → IsStart s
start_of s h = let x = and3 (nat_lt s.act.0 128) (nat_lt s.trans.0 1024) (nat_lt s.place 16) h in (lt_of s.act.0 128 x.0, lt_of s.trans.0 1024 x.1, lt_of s.place 16 x.2)

of_start : (s : StartAt) → IsStart s → is_start s ≡ true
of_start s h = all3 (nat_lt s.act.0 128) (nat_lt s.trans.0 1024) (nat_lt s.place 16) (of_lt s.act.0 128 h.0) (of_lt s.trans.0 1024 h.1) (of_lt s.place 16 h.2)

earlier_of : (a b : StartAt) → is_earlier a b ≡ true → IsEarlier a b
earlier_of a b h = elim (or_cases (nat_lt a.trans.0 b.trans.0) ((a.trans.0 == b.trans.0) && nat_lt a.place b.place) h) [
  | inl less ↦ inl (lt_of a.trans.0 b.trans.0 less)
  | inr same ↦ let x = and_both (a.trans.0 == b.trans.0) (nat_lt a.place b.place) same in inr (eqb-true a.trans.0 b.trans.0 x.0, lt_of a.place b.place x.1)
]

of_earlier : (a b : StartAt) → IsEarlier a b → is_earlier a b ≡ true
of_earlier a b h = elim h [
  | inl less ↦ or_left (nat_lt a.trans.0 b.trans.0) ((a.trans.0 == b.trans.0) && nat_lt a.place b.place) (of_lt a.trans.0 b.trans.0 less)
  | inr same ↦ or_right (nat_lt a.trans.0 b.trans.0) ((a.trans.0 == b.trans.0) && nat_lt a.place b.place)
      (and_true (a.trans.0 == b.trans.0) (nat_lt a.place b.place) (eq-eqb a.trans.0 b.trans.0 same.0) (of_lt a.place b.place same.1))
]

outer_of : (o : Outer) → is_outer o ≡ true → IsOuter chart_numbers o
outer_of (Happen e) h = lt_of e.0 128 h
outer_of (Complete item act outputs) h =
    let x = and3 (nat_le 1 item && nat_lt act.0 128) (nat_le (length outputs) 8) (list_all is_output outputs) h in
    let y = and_both (nat_le 1 item) (nat_lt act.0 128) x.0 in
    (le_of 1 item y.0, lt_of act.0 128 y.1, le_of (length outputs) 8 x.1, all_of is_output (λ o. o.var.0 < 128) (λ o t. lt_of o.var.0 128 t) outputs x.2)

of_outer : (o : Outer) → IsOuter chart_numbers o → is_outer o ≡ true
of_outer (Happen e) h = of_lt e.0 128 h
of_outer (Complete item act outputs) h =
    all3 (nat_le 1 item && nat_lt act.0 128) (nat_le (length outputs) 8) (list_all is_output outputs)
    (and_true (nat_le 1 item) (nat_lt act.0 128) (of_le 1 item h.0) (of_lt act.0 128 h.1)) (of_le (length outputs) 8 h.2)
    (of_all is_output (λ o. o.var.0 < 128) (λ o t. of_lt o.var.0 128 t) outputs h.3)

-- the whole

module _ (u : Update) where
  abbrev flips_rise : Bool
  flips_rise = are_in_order (λ a b. nat_lt a.0 b.0) u.flips

  abbrev writes_rise : Bool
  writes_rise = are_in_order (λ a b. nat_lt a.var.0 b.var.0) u.writes

  abbrev raised_rise : Bool
  raised_rise = are_in_order (λ a b. nat_lt a.0 b.0) u.raised

  abbrev starts_rise : Bool
  starts_rise = are_in_order is_earlier u.starts

  abbrev fired_rise : Bool
  fired_rise = are_in_order (λ a b. nat_lt a.0 b.0) u.fired

  -- what is decided so is in range
  pub decided : is_whole u ≡ true → IsInRange u
  decided h =
      let whole = and3 (is_sent u) (are_changes u) (are_rest u) h in
      let sent = and3 (nat_lt u.from.0 8) (nat_le 1 u.step) (nat_le u.step 20001) whole.0 in
      let changes = and3 (flips_in u) (writes_in u) (raised_in u) whole.1 in
      let others = and3 (starts_in u) (fired_in u) (outer_in u) whole.2 in
      let flips = and_both (list_all is_state u.flips) flips_rise changes.0 in
      let writes = and_both (list_all is_write u.writes) writes_rise changes.1 in
      let raised = and_both (list_all is_event u.raised) raised_rise changes.2 in
      let starts = and3 (list_all is_start u.starts) starts_rise (nat_le (length u.starts) 8176) others.0 in
      let fired = and3 (list_all is_transition u.fired) fired_rise (nat_le (length u.fired) 511) others.1 in
      let outers = and_both (list_all is_outer u.outer) (nat_le (length u.outer) 64) others.2 in
      record {
        from = lt_of u.from.0 8 sent.0;
        step = (le_of 1 u.step sent.1, le_of u.step 20001 sent.2);
        flips = all_of is_state (λ s. s.0 < 512) (λ s t. lt_of s.0 512 t) u.flips flips.0;
        flips_ascend = order_of (λ a b. nat_lt a.0 b.0) (λ a b. a.0 < b.0) (λ a b t. lt_of a.0 b.0 t) u.flips flips.1;
        writes = all_of is_write IsWrite write_of u.writes writes.0;
        writes_ascend = order_of (λ a b. nat_lt a.var.0 b.var.0) (λ a b. a.var.0 < b.var.0) (λ a b t. lt_of a.var.0 b.var.0 t) u.writes writes.1;
        raised = all_of is_event (λ e. e.0 < 128) (λ e t. lt_of e.0 128 t) u.raised raised.0;
        raised_ascend = order_of (λ a b. nat_lt a.0 b.0) (λ a b. a.0 < b.0) (λ a b t. lt_of a.0 b.0 t) u.raised raised.1;
        starts = all_of is_start IsStart start_of u.starts starts.0;
        starts_ascend = order_of is_earlier IsEarlier earlier_of u.starts starts.1;
        starts_few = le_of (length u.starts) 8176 starts.2;
        fired = all_of is_transition (λ t. t.0 < 1024) (λ t x. lt_of t.0 1024 x) u.fired fired.0;
        fired_ascend = order_of (λ a b. nat_lt a.0 b.0) (λ a b. a.0 < b.0) (λ a b t. lt_of a.0 b.0 t) u.fired fired.1;
        fired_few = le_of (length u.fired) 511 fired.2;
        outer = all_of is_outer (IsOuter chart_numbers) outer_of u.outer outers.0;
        outer_few = le_of (length u.outer) 64 outers.1;
      }

  -- and what is in range is decided so
  pub decides : IsInRange u → is_whole u ≡ true
  decides r =
      let sent = all3 (nat_lt u.from.0 8) (nat_le 1 u.step) (nat_le u.step 20001) (of_lt u.from.0 8 r.from) (of_le 1 u.step r.step.0) (of_le u.step 20001 r.step.1) in
      let flips =
      and_true (list_all is_state u.flips) flips_rise (of_all is_state (λ s. s.0 < 512) (λ s t. of_lt s.0 512 t) u.flips r.flips)
      (of_order (λ a b. nat_lt a.0 b.0) (λ a b. a.0 < b.0) (λ a b t. of_lt a.0 b.0 t) u.flips r.flips_ascend) in
      let writes =
      and_true (list_all is_write u.writes) writes_rise (of_all is_write IsWrite of_write u.writes r.writes)
      (of_order (λ a b. nat_lt a.var.0 b.var.0) (λ a b. a.var.0 < b.var.0) (λ a b t. of_lt a.var.0 b.var.0 t) u.writes r.writes_ascend) in
      let raised =
      and_true (list_all is_event u.raised) raised_rise (of_all is_event (λ e. e.0 < 128) (λ e t. of_lt e.0 128 t) u.raised r.raised)
      (of_order (λ a b. nat_lt a.0 b.0) (λ a b. a.0 < b.0) (λ a b t. of_lt a.0 b.0 t) u.raised r.raised_ascend) in
      let starts =
      all3 (list_all is_start u.starts) starts_rise (nat_le (length u.starts) 8176) (of_all is_start IsStart of_start u.starts r.starts)
      (of_order is_earlier IsEarlier of_earlier u.starts r.starts_ascend) (of_le (length u.starts) 8176 r.starts_few) in
      let fired =
      all3 (list_all is_transition u.fired) fired_rise (nat_le (length u.fired) 511) (of_all is_transition (λ t. t.0 < 1024) (λ t x. of_lt t.0 1024 x) u.fired r.fired)
      (of_order (λ a b. nat_lt a.0 b.0) (λ a b. a.0 < b.0) (λ a b t. of_lt a.0 b.0 t) u.fired r.fired_ascend) (of_le (length u.fired) 511 r.fired_few) in
      let outers = and_true (list_all is_outer u.outer) (nat_le (length u.outer) 64) (of_all is_outer (IsOuter chart_numbers) of_outer u.outer r.outer) (of_le (length u.outer) 64 r.outer_few) in
      all3 (is_sent u) (are_changes u) (are_rest u) sent (all3 (flips_in u) (writes_in u) (raised_in u) flips writes raised) (all3 (starts_in u) (fired_in u) (outer_in u) starts fired outers)
