-- Starts in order are determined by those of each transition and place.
use Rattle.std.proofs.Common.{◌≡◌, ◌⊎◌, ℕ, suc, ◌+◌, ◌<◌, ◌≤◌, ◌==◌, Bool, true, false, cond, List, [], ◌∷◌, ◌++◌, length, get_or, filter, inl, inr, refl, sym, ap, subst, ◌∙◌, arith}
use Rattle.std.specs.List.Sorted.{IsStrictlyIncreasing, IsSortedByKey}
use Rattle.std.specs.Ordering.{is_lt}
use Rattle.std.proofs.lemmas.Bool.{cases_order}
use Rattle.std.proofs.lemmas.Bool.Decides.{nat_tests}
use Rattle.wf_model.specs.declared.chart.Action.{Action}
use Rattle.wf_model.specs.declared.chart.Action.TheVariants.{Assign, Raise, Start}
use Rattle.wf_model.specs.declared.chart.Chart.{Chart}
use Rattle.wf_model.specs.declared.update.StartAt.{StartAt}
use Rattle.wf_semantics.specs.Effects.{actions_of, starts_from, starts_of}
use Rattle.wf_actions.specs.Order.{place_of, place_cmp, is_at}
use Rattle.wf_actions.proofs.Ascending.{Ascends, ascends_from}

-- transition t at place p is no later than u at q, and before it
record NoLater (t p u q : ℕ) : Type 0 where
  trans : t ≤ u
  place : t ≡ u → p ≤ q

record Before (t p u q : ℕ) : Type 0 where
  trans : t ≤ u
  place : t ≡ u → p < q

-- starts in order, none before place p of transition t
abbrev InOrder : ℕ → ℕ → List StartAt → Type 0
InOrder t p [] = Unit {0}
InOrder t p (s ∷ ss) = NoLater t p s.trans.0 s.place × InOrder s.trans.0 s.place ss

no_later : (t p u q : ℕ) → is_lt (place_cmp (u, q) (t, p)) ≡ false → NoLater t p u q
no_later t p u q h = record { trans = grind (arith, nat_tests); place = λ e. grind (arith, nat_tests) }

in_order_from : (t p : ℕ) (ss : List StartAt) → ((d : StartAt) → 0 < length ss → NoLater t p (get_or ss 0 d).trans.0 (get_or ss 0 d).place) → IsSortedByKey place_of place_cmp ss → InOrder t p ss
in_order_from t p [] h up = tt
in_order_from t p (s ∷ ss) h up = (
  h s (omega arith),
  in_order_from s.trans.0 s.place ss
      (λ d l. no_later s.trans.0 s.place (get_or ss 0 d).trans.0 (get_or ss 0 d).place (up 0 d (omega arith) (omega arith)))
      (λ k d a l. step k d (up (suc k) d (omega arith) (omega arith))),
)
  where
    step : (k : ℕ) (d : StartAt) → is_lt (place_cmp (place_of (get_or (s ∷ ss) (suc k + 1) d)) (place_of (get_or (s ∷ ss) (suc k) d))) ≡ false
        → is_lt (place_cmp (place_of (get_or ss (k + 1) d)) (place_of (get_or ss k d))) ≡ false
    step k d h =
        let e : suc k + 1 ≡ suc (k + 1) = omega arith in
        subst (λ (m : ℕ). is_lt (place_cmp (place_of (get_or (s ∷ ss) m d)) (place_of (get_or ss k d))) ≡ false) e h

-- where the starts begin later, there is none
none_before : (u q t p : ℕ) (ss : List StartAt) → Before u q t p → InOrder t p ss → filter (is_at u q) ss ≡ []
none_before u q t p [] b o = refl
none_before u q t p (s ∷ ss) b o =
    let first = o.0 in
    let later : Before u q s.trans.0 s.place = record { trans = omega (arith, b.trans, first.trans); place = λ e. omega (arith, b.trans, b.place, first.trans, first.place) } in
    let off : is_at u q s ≡ false = let a = later.trans in let c = later.place in grind (arith, nat_tests) in
    rw off (none_before u q s.trans.0 s.place ss later o.1)

own : (s : StartAt) → is_at s.trans.0 s.place s ≡ true
own s = let a : (s.trans.0 == s.trans.0) ≡ true = grind (arith, nat_tests) in let b : (s.place == s.place) ≡ true = grind (arith, nat_tests) in rw (a, b) refl

own_first : (s : StartAt) (ss : List StartAt) → filter (is_at s.trans.0 s.place) (s ∷ ss) ≡ s ∷ filter (is_at s.trans.0 s.place) ss
own_first s ss = ap (λ (b : Bool). cond b (s ∷ filter (is_at s.trans.0 s.place) ss) (filter (is_at s.trans.0 s.place) ss)) (own s)

not_empty : (s : StartAt) (ss : List StartAt) → s ∷ ss ≡ [] → ⊥
not_empty s ss e = cc

head_same : (s r : StartAt) (ss rs : List StartAt) → s ∷ ss ≡ r ∷ rs → s ≡ r
head_same s r ss rs e = cc

tail_same : (s r : StartAt) (ss rs : List StartAt) → s ∷ ss ≡ r ∷ rs → ss ≡ rs
tail_same s r ss rs e = cc

-- the order of two starts
order : (t p u q : ℕ) → ((t ≡ u) × (p ≡ q)) ⊎ (Before t p u q ⊎ Before u q t p)
order t p u q = elim (cases_order t u) [
  | inl e ↦ elim (cases_order p q) [
    | inl f ↦ inl (e, f)
    | inr (inl l) ↦ inr (inl (record { trans = omega arith; place = λ x. l }))
    | inr (inr l) ↦ inr (inr (record { trans = omega arith; place = λ x. l }))
  ]
  | inr (inl l) ↦ inr (inl (record { trans = omega arith; place = λ x. omega arith }))
  | inr (inr l) ↦ inr (inr (record { trans = omega arith; place = λ x. omega arith }))
]

at_rest : (u q : ℕ) (s r : StartAt) (ss rs : List StartAt) → s ≡ r → filter (is_at u q) (s ∷ ss) ≡ filter (is_at u q) (r ∷ rs) → filter (is_at u q) ss ≡ filter (is_at u q) rs
at_rest u q s r ss rs same e = go (is_at u q s) (is_at u q r) (ap (is_at u q) same) e
  where
    go : (a b : Bool) → a ≡ b → cond a (s ∷ filter (is_at u q) ss) (filter (is_at u q) ss) ≡ cond b (r ∷ filter (is_at u q) rs) (filter (is_at u q) rs) → filter (is_at u q) ss ≡ filter (is_at u q) rs
    go true true f g = tail_same s r (filter (is_at u q) ss) (filter (is_at u q) rs) g
    go true false f g = cc
    go false true f g = cc
    go false false f g = g

self : (s : StartAt) → NoLater s.trans.0 s.place s.trans.0 s.place
self s = record { trans = omega arith; place = λ e. omega arith }

one_order : (t p : ℕ) (ss rs : List StartAt) → InOrder t p ss → InOrder t p rs → ((u q : ℕ) → filter (is_at u q) ss ≡ filter (is_at u q) rs) → ss ≡ rs
one_order t p [] [] a b e = refl
one_order t p [] (r ∷ rs) a b e = absurd (not_empty r (filter (is_at r.trans.0 r.place) rs) (sym (own_first r rs) ∙ sym (e r.trans.0 r.place)))
one_order t p (s ∷ ss) [] a b e = absurd (not_empty s (filter (is_at s.trans.0 s.place) ss) (sym (own_first s ss) ∙ e s.trans.0 s.place))
one_order t p (s ∷ ss) (r ∷ rs) a b e =
    let first : s ≡ r = elim (order s.trans.0 s.place r.trans.0 r.place) [
      | inl w ↦
          let at : filter (is_at s.trans.0 s.place) (r ∷ rs) ≡ filter (is_at r.trans.0 r.place) (r ∷ rs) =
          ap (λ (u : ℕ). filter (is_at u s.place) (r ∷ rs)) w.0 ∙ ap (λ (q : ℕ). filter (is_at r.trans.0 q) (r ∷ rs)) w.1 in
          head_same s r _ _ (sym (own_first s ss) ∙ e s.trans.0 s.place ∙ at ∙ own_first r rs)
      | inr (inl l) ↦ absurd (not_empty s (filter (is_at s.trans.0 s.place) ss)
          (sym (own_first s ss) ∙ e s.trans.0 s.place ∙ none_before s.trans.0 s.place r.trans.0 r.place (r ∷ rs) l (self r, b.1)))
      | inr (inr l) ↦ absurd (not_empty r (filter (is_at r.trans.0 r.place) rs)
          (sym (own_first r rs) ∙ sym (e r.trans.0 r.place) ∙ none_before r.trans.0 r.place s.trans.0 s.place (s ∷ ss) l (self s, a.1)))
    ] in
    let rest : ss ≡ rs = one_order s.trans.0 s.place ss rs a.1 (subst (λ (x : StartAt). InOrder x.trans.0 x.place rs) (sym first) b.1)
    (λ u q. at_rest u q s r ss rs first (e u q)) in
    ap (λ (x : StartAt). x ∷ ss) first ∙ ap (λ (l : List StartAt). r ∷ l) rest

-- the starts of the central run's step are in order
later_start : (a b t p : ℕ) (ss : List StartAt) → NoLater a b t p → InOrder t p ss → InOrder a b ss
later_start a b t p [] n o = tt
later_start a b t p (s ∷ ss) n o =
    let first = o.0 in
    (record { trans = omega (arith, n.trans, first.trans); place = λ e. omega (arith, n.trans, n.place, first.trans, first.place) }, o.1)

block_in_order : (t place a b : ℕ) (acts : List Action) (rest : List StartAt) → NoLater a b t place → InOrder (t + 1) 0 rest → InOrder a b (starts_from t place acts ++ rest)
block_in_order t place a b [] rest n o =
    later_start a b (t + 1) 0 rest (record { trans = omega (arith, n.trans); place = λ e. omega (arith, n.trans) }) o
block_in_order t place a b (Assign x value ∷ acts) rest n o =
    block_in_order t (place + 1) a b acts rest (record { trans = n.trans; place = λ e. omega (arith, n.place e) }) o
block_in_order t place a b (Raise e ∷ acts) rest n o =
    block_in_order t (place + 1) a b acts rest (record { trans = n.trans; place = λ e. omega (arith, n.place e) }) o
block_in_order t place a b (Start x ∷ acts) rest n o =
    (n, block_in_order t (place + 1) t place acts rest (record { trans = omega arith; place = λ e. omega arith }) o)

starts_in_order : (chart : Chart) (lo : ℕ) (fired : List ℕ) → Ascends lo fired → InOrder lo 0 (starts_of chart fired)
starts_in_order chart lo [] a = tt
starts_in_order chart lo (t ∷ ts) a =
    block_in_order t 0 lo 0 (actions_of chart t) (starts_of chart ts) (record { trans = a.0; place = λ e. omega arith }) (starts_in_order chart (t + 1) ts a.1)

pub shares_starts : (chart : Chart) (fired : List ℕ) (starts : List StartAt) → IsStrictlyIncreasing fired → IsSortedByKey place_of place_cmp starts → ((t place : ℕ) → filter (is_at t place) starts ≡ filter (is_at t place) (starts_of chart fired)) → starts ≡ starts_of chart fired
shares_starts chart fired starts up sorted same =
    one_order 0 0 starts (starts_of chart fired)
    (in_order_from 0 0 starts (λ d l. record { trans = omega arith; place = λ e. omega arith }) sorted)
    (starts_in_order chart 0 fired (ascends_from 0 fired (λ l. omega arith) up))
    same
