-- What a disk in memory tells of the strokes that fail and of those that stop it.
use Rattle.std.proofs.Common.{◌≡◌, ◌≢◌, ◌↔◌, inl, inr, ℕ, ◌+◌, ◌≤◌, ◌<◌, ◌^◌, Bool, true, false, ◌||◌, nat_lt, Option, None, Some, refl, sym, ◌∙◌, ap, arith, rules}
use Rattle.std.specs.Prelude.{is_some}
use Rattle.std.proofs.lemmas.Bool.{cond-true, cond-false}
use Rattle.wf_model.specs.Faults.{last_count}
use Rattle.wf_disk.specs.Disk.{IsDown, GoesOnOrStops}
use Rattle.wf_disk.specs.Arms.{is_counted, fate_at, is_stop, fate_by}
use Rattle.wf_disk.specs.Memory.{Held, told_of, is_stopped_for, fate_for, fate_of, has_stopped, failed}
use Rattle.wf_disk.specs.declared.arm.Armed.{Armed}
use Rattle.wf_disk.specs.declared.arm.Outcome.{Outcome}
use Rattle.wf_disk.specs.declared.arm.Fate.TheVariants as fate

-- a disk that has stopped for a stroke fails at it
fails_when : (m : Held) (n : ℕ) → is_stopped_for m n ≡ true → fate_for m n ≢ fate.Done
fails_when m n is done = let same : fate.Fails ≡ fate.Done = sym (cond-true (is_stopped_for m n) fate.Fails (fate_at m.arm n) is) ∙ done in cc

-- a stop is for every stroke
stop_for : (m : Held) (n : ℕ) → is_some m.stop ≡ true → is_stopped_for m n ≡ true
stop_for m n is = ap (λ b. b || nat_lt last_count n) is

-- no disk makes a stroke past the last
past_for : (m : Held) (n : ℕ) → last_count < n → is_stopped_for m n ≡ true
past_for m n past = go (is_some m.stop)
  where
    go : (s : Bool) → (s || nat_lt last_count n) ≡ true
    go true = refl
    go false = search (rules, past)

-- a disk with no stop, before the last stroke
open_for : (m : Held) (n : ℕ) → is_some m.stop ≡ false → n ≤ last_count → is_stopped_for m n ≡ false
open_for m n is early = let late : nat_lt last_count n ≡ false = search (rules, early) in ap (λ b. b || nat_lt last_count n) is ∙ late

-- a stroke at which a disk fails and goes on, or stays stopped
pub fails_on : (m : Held) → m.clock < 2 ^ 64 → fate_of m ≡ fate.Fails → GoesOnOrStops (told_of m) (told_of (failed m)) (m.clock + 1)
fails_on m range fails = go (is_some m.stop) refl (nat_lt last_count (m.clock + 1)) refl
  where
    go : (s : Bool) → is_some m.stop ≡ s → (l : Bool) → nat_lt last_count (m.clock + 1) ≡ l → GoesOnOrStops (told_of m) (told_of (failed m)) (m.clock + 1)
    go true is l late =
        inr (ap (λ b. b || is_stop (fate_at m.arm (m.clock + 1))) (stop_for m (m.clock + 1) is), λ n after. fails_when (failed m) n (stop_for (failed m) n is))
    go false is true late =
        let end : last_count < m.clock + 1 = search (rules, late) in
        inr (
          ap (λ b. b || is_stop (fate_at m.arm (m.clock + 1))) (past_for m (m.clock + 1) end),
          λ n after. fails_when (failed m) n (past_for (failed m) n (omega (arith, after, end))),
        )
    go false is false late =
        let early : is_stopped_for m (m.clock + 1) ≡ false = ap (λ b. b || nat_lt last_count (m.clock + 1)) is ∙ late in
        let same : fate_at m.arm (m.clock + 1) ≡ fate.Fails = sym (cond-false (is_stopped_for m (m.clock + 1)) fate.Fails (fate_at m.arm (m.clock + 1)) early) ∙ fails in
        let no_stop : (is_stopped_for m (m.clock + 1) || is_stop (fate_at m.arm (m.clock + 1))) ≡ false =
        ap (λ b. b || is_stop (fate_at m.arm (m.clock + 1))) early ∙ ap is_stop same in
        inl (
          λ stops. let same : false ≡ true = sym no_stop ∙ stops in cc,
          record { kept = λ n fails. fails; no_other = λ n fails. fails; stops_kept = λ n stops. stops; no_other_stop = λ n stops. stops },
        )

-- a stroke that stops a disk
pub stops_by : (m m' : Held) (outcome : Outcome) → fate_of m ≡ fate.Stops outcome → m'.stop ≡ Some outcome → GoesOnOrStops (told_of m) (told_of m') (m.clock + 1)
stops_by m m' outcome stops is = inr (to_stop (is_stopped_for m (m.clock + 1)) refl, λ n after. fails_when m' n (stop_for m' n (ap (λ o. is_some o) is)))
  where
    to_stop : (s : Bool) → is_stopped_for m (m.clock + 1) ≡ s → (is_stopped_for m (m.clock + 1) || is_stop (fate_at m.arm (m.clock + 1))) ≡ true
    to_stop true now = ap (λ b. b || is_stop (fate_at m.arm (m.clock + 1))) now
    to_stop false early =
        let same : fate_at m.arm (m.clock + 1) ≡ fate.Stops outcome = sym (cond-false (is_stopped_for m (m.clock + 1)) fate.Fails (fate_at m.arm (m.clock + 1)) early) ∙ stops in
        ap (λ b. b || is_stop (fate_at m.arm (m.clock + 1))) early ∙ ap is_stop same

-- an arm counts one stroke
one_counted : (arm : Option Armed) (n : ℕ) → fate_at arm n ≢ fate.Done → fate_at arm (n + 1) ≡ fate.Done
one_counted None n fails = refl
one_counted (Some arm) n fails = go (is_counted arm n) refl
  where
    go : (c : Bool) → is_counted arm n ≡ c → fate_at (Some arm) (n + 1) ≡ fate.Done
    go true is =
        let here : arm.after + arm.stroke ≡ n = search (rules, is) in
        let passed : arm.after + arm.stroke ≢ n + 1 = λ same. omega (arith, here, same) in
        let other : is_counted arm (n + 1) ≡ false = search (rules, passed) in
        cond-false (is_counted arm (n + 1)) (fate_by arm.what) fate.Done other
    go false isnt = absurd (fails (cond-false (is_counted arm n) (fate_by arm.what) fate.Done isnt))

-- A disk is down exactly if it has stopped. With one stroke left an arm may make it look so.
pub down_is_stopped : (m : Held) → m.clock + 2 ≤ last_count → (has_stopped m ≡ true) ↔ IsDown (told_of m)
down_is_stopped m early = (to, from (is_some m.stop) refl)
  where
    to : has_stopped m ≡ true → IsDown (told_of m)
    to stopped n after = go (is_some m.stop) refl
      where
        go : (s : Bool) → is_some m.stop ≡ s → fate_for m n ≢ fate.Done
        go true is = fails_when m n (stop_for m n is)
        go false is = let same : false ≡ true = sym (open_for m (m.clock + 1) is (omega (arith, early))) ∙ stopped in absurd (cc)

    from : (s : Bool) → is_some m.stop ≡ s → IsDown (told_of m) → has_stopped m ≡ true
    from true is down = stop_for m (m.clock + 1) is
    from false is down =
        let first : fate_at m.arm (m.clock + 1) ≢ fate.Done = λ done.
        down (m.clock + 1) (omega arith) (cond-false _ fate.Fails (fate_at m.arm (m.clock + 1)) (open_for m (m.clock + 1) is (omega (arith, early))) ∙ done) in
        let second : fate_at m.arm (m.clock + 1 + 1) ≡ fate.Done = one_counted m.arm (m.clock + 1) first in
        absurd (down (m.clock + 1 + 1) (omega arith) (cond-false _ fate.Fails (fate_at m.arm (m.clock + 1 + 1)) (open_for m (m.clock + 1 + 1) is (omega (arith, early))) ∙ second))
