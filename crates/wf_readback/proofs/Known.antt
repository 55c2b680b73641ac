-- What an accepted chart's parts name is there.
use Rattle.std.proofs.Common.{◌≡◌, ℕ, ◌+◌, ◌&&◌, Bool, true, List, [], ◌∷◌, drop, refl, arith}
use Rattle.std.specs.List.{list_all, enumerate_from}
use Rattle.wf_model.specs.declared.chart.Chart.{Chart}
use Rattle.wf_model.specs.Tree.{parent_of}
use Rattle.wf_model.specs.Accepted.{IsAccepted, is_accepted, is_named, is_numbered, all_of, all_numbered, is_unit, follows, is_placed_event, is_placed_state, is_known_activity, is_known_transition}
use Rattle.wf_model.proofs.Bools.{and_both, and_true}

pub is_named_of : (chart : Chart) → IsAccepted chart → is_named chart ≡ true
unfolding is_accepted
is_named_of chart ok = grind arith

is_numbered_of : (chart : Chart) → IsAccepted chart → is_numbered chart ≡ true
unfolding is_accepted
is_numbered_of chart ok = grind arith

pub all_both : {A : Type 0} (p q : A → Bool) (xs : List A) → list_all p xs ≡ true → list_all q xs ≡ true → list_all (λ x. p x && q x) xs ≡ true
all_both p q [] h k = refl
all_both p q (x ∷ xs) h k =
    let a = and_both (p x) (list_all p xs) h in
    let b = and_both (q x) (list_all q xs) k in
    rw (a.0, b.0) (all_both p q xs a.1 b.1)

pub all_behind : {A : Type 0} (test : A → Bool) (xs : List A) → list_all test xs ≡ true → list_all test (drop 1 xs) ≡ true
all_behind test [] h = h
all_behind test (x ∷ xs) h = (and_both (test x) (list_all test xs) h).1

-- what each passes with its number
unnumbered : {A : Type 0} (test : ℕ → A → Bool) (weaker : A → Bool) → ((n : ℕ) (x : A) → test n x ≡ true → weaker x ≡ true) → (xs : List A) (k : ℕ)
    → list_all (λ p. test p.0 p.1) (enumerate_from k xs) ≡ true → list_all weaker xs ≡ true
unnumbered test weaker implies [] k h = refl
unnumbered test weaker implies (x ∷ xs) k h =
    let p = and_both (test k x) (list_all (λ q. test q.0 q.1) (enumerate_from (k + 1) xs)) h in
    and_true (weaker x) (list_all weaker xs) (implies k x p.0) (unnumbered test weaker implies xs (k + 1) p.1)

pub record IsKnown (chart : Chart) : Type 0 where
  pub events : list_all (λ x. all_of (is_unit chart) x.unit) chart.events ≡ true
  pub acts : list_all (is_known_activity chart) chart.acts ≡ true
  pub states : list_all (λ x. is_unit chart x.unit) chart.states ≡ true
  pub transitions : list_all (is_known_transition chart) chart.transitions ≡ true

record Numbered (chart : Chart) : Type 0 where
  events : all_numbered (is_placed_event chart) chart.events ≡ true
  acts : list_all (is_known_activity chart) chart.acts ≡ true
  states : all_numbered (is_placed_state chart) chart.states ≡ true
  transitions : list_all (is_known_transition chart) chart.transitions ≡ true

numbered : (chart : Chart) → is_numbered chart ≡ true → Numbered chart
unfolding is_numbered
numbered chart h = record { events = grind arith; acts = grind arith; states = grind arith; transitions = grind arith }

last_test : (a b : Bool) → (a && b) ≡ true → b ≡ true
last_test a b h = (and_both a b h).1

pub known : (chart : Chart) → IsAccepted chart → IsKnown chart
known chart ok =
    let n = numbered chart (is_numbered_of chart ok) in
    record {
      events = unnumbered (is_placed_event chart) (λ x. all_of (is_unit chart) x.unit) (λ k x h. last_test _ (all_of (is_unit chart) x.unit) h) chart.events 0 n.events;
      acts = n.acts;
      states = unnumbered (is_placed_state chart) (λ x. is_unit chart x.unit) (λ k x h. last_test (follows chart k (parent_of x)) (is_unit chart x.unit) h) chart.states 0 n.states;
      transitions = n.transitions;
    }
