-- What strokes do to a disk that is to fail just where a fuse says.
use Rattle.std.proofs.Common.{◌≡◌, ◌≢◌, ◌⊎◌, inl, inr, ℕ, ◌+◌, ◌-◌, ◌<◌, ◌≤◌, ◌==◌, ◌||◌, Bool, true, false, List, Option, Some, None, option_map, refl, sym, ◌∙◌, ap, ap₂, subst, arith, rules, nat_lt, cond}
use Rattle.std.specs.Prelude.{is_some}
use Rattle.std.proofs.lemmas.Bool.{cond-true, cond-false, eqb-true, eq-eqb}
use Rattle.wf_disk.specs.declared.arm.Arm.{Arm}
use Rattle.wf_disk.specs.declared.arm.Arm.TheVariants.{Fail, Crash}
use Rattle.wf_model.specs.Faults.{last_count}
use Rattle.wf_disk.specs.Disk.{Told, GoesOnOrStops, IsDown}
use Rattle.wf_disk.specs.declared.arm.Armed.{Armed}
use Rattle.wf_disk.specs.declared.arm.Outcome.{Outcome}
use Rattle.wf_disk.specs.declared.arm.Fate.TheVariants as fate
use Rattle.wf_disk.specs.Arms.{fate_at, fate_by, is_stop}
use Rattle.wf_disk.specs.Memory.{Held, told_of, armed, is_stopped_for, is_stopped_after, fate_for}
use Rattle.wf_journal.specs.Plan.{WentOn, Struck}
use Rattle.wf_machine.specs.Strokes.{Fuse, Met, Done, SetOff, strokes}
use Rattle.wf_slot.specs.Fuses.{is_crash, IsUnarmed, IsArmed, IsFused}

-- a fuse that is longer than n strokes, after them
abbrev pub burnt : ℕ → Option Fuse → Option Fuse
burnt n fuse = option_map (λ (f : Fuse). record f { left = f.left - n }) fuse

abbrev met_by : ℕ → Fuse → Bool → Met
met_by n f true = Done (Some (record f { left = f.left - n }))
met_by n f false = SetOff f.left f.what

met_is : (n : ℕ) (f : Fuse) (b : Bool) → nat_lt n f.left ≡ b → strokes n (Some f) ≡ met_by n f b
unfolding strokes
met_is n f true e = rw e
met_is n f false e = rw e

-- ALL STROKES WERE DONE: the fuse was longer, and is shorter by them
module _ (old new : Told) (n : ℕ) (file : List ℕ) (tells : old.image ≡ Some file) (went : WentOn old new) (clock : new.clock ≡ old.clock + n) where
  pub longer : (f : Fuse) → IsArmed old f → n < f.left
  longer f lit = go (nat_lt n f.left) refl
    where
      go : (b : Bool) → nat_lt n f.left ≡ b → n < f.left
      go true e = search (rules, e)
      go false e =
          let short : f.left ≤ n = search (rules, e) in
          absurd (went.safe file tells (old.clock + f.left) (omega (arith, lit.later)) (omega (arith, short, clock)) lit.due)

  burns_armed : (f : Fuse) → IsArmed old f → IsArmed new (record f { left = f.left - n })
  burns_armed f lit =
      let far : n < f.left = longer f lit in
      let there : new.clock + (f.left - n) ≡ old.clock + f.left = omega (arith, far, clock) in
      record {
        later = omega (arith, far);
        due = subst (λ (k : ℕ). new.is_to_fail k) (sym there) (went.plan.kept _ lit.due);
        only = λ k after within fails. let at : k ≡ old.clock + f.left = lit.only k (omega (arith, after, clock)) within (went.plan.no_other k fails) in at ∙ sym there;
        stops = λ crash. subst (λ (k : ℕ). new.is_to_stop k) (sym there) (went.plan.stops_kept _ (lit.stops crash));
        goes_on = λ fail stop. lit.goes_on fail (went.plan.no_other_stop _ (subst (λ (k : ℕ). new.is_to_stop k) there stop));
      }

  pub burns : (fuse : Option Fuse) → IsFused old fuse → (strokes n fuse ≡ Done (burnt n fuse)) × IsFused new (burnt n fuse)
  unfolding strokes
  burns None lit = (refl, record { none = λ k after within fails. lit.none k (omega (arith, after, clock)) within (went.plan.no_other k fails) })
  burns (Some f) lit = (met_is n f true (let far : n < f.left = longer f lit in search (rules, far)), burns_armed f lit)

-- A STROKE FAILED: it is the one that the fuse counted, which is used up
pub record GoesOff (most : ℕ) (fuse : Option Fuse) (old new : Told) : Type 0 where
  pub f : Fuse
  pub is : fuse ≡ Some f
  pub within : f.left ≤ most
  pub met : strokes most fuse ≡ SetOff f.left f.what
  pub clock : new.clock ≡ old.clock + f.left
  pub unarmed : is_crash f.what ≡ false → IsUnarmed new
  pub down : is_crash f.what ≡ true → IsDown new

module _ (old new : Told) (most : ℕ) (struck : Struck old new most) (early : old.clock + most ≤ last_count) where
  clock_is : (new.clock ≡ struck.stroke) ⊎ ((new.clock ≡ last_count) × (struck.stroke ≡ last_count + 1)) → new.clock ≡ struck.stroke
  clock_is (inl e) = e
  clock_is (inr e) = absurd (omega (arith, e.1, struck.within, early))

  true_or_false : true ≡ false → ⊥
  true_or_false e = cc

  pub goes_off : (fuse : Option Fuse) → IsFused old fuse → GoesOff most fuse old new
  goes_off None lit = absurd (lit.none struck.stroke struck.later (omega (arith, struck.within, early)) struck.hit)
  goes_off (Some f) lit =
      let at : struck.stroke ≡ old.clock + f.left = lit.only struck.stroke struck.later (omega (arith, struck.within, early)) struck.hit in
      let now : new.clock ≡ struck.stroke = clock_is struck.clock in
      let short : f.left ≤ most = omega (arith, at, struck.within) in
      record {
        f = f;
        is = refl;
        within = short;
        met = met_is most f false (search (rules, short));
        clock = now ∙ at;
        unarmed = λ fail. goes struck.goes_on_or_stops at now fail;
        down = λ crash. stops struck.goes_on_or_stops at crash;
      }
    where
      goes : GoesOnOrStops old new struck.stroke → struck.stroke ≡ old.clock + f.left → new.clock ≡ struck.stroke → is_crash f.what ≡ false → IsUnarmed new
      goes (inl on) at now fail =
          record { none = λ n after within fails. let there : n ≡ old.clock + f.left = lit.only n (omega (arith, after, now, at)) within (on.1.no_other n fails) in omega (arith, there, at, now, after) }
      goes (inr stop) at now fail = absurd (lit.goes_on fail (subst (λ (k : ℕ). old.is_to_stop k) at stop.0))

      stops : GoesOnOrStops old new struck.stroke → struck.stroke ≡ old.clock + f.left → is_crash f.what ≡ true → IsDown new
      stops (inl on) at crash = absurd (on.0 (subst (λ (k : ℕ). old.is_to_stop k) (sym at) (lit.stops crash)))
      stops (inr stop) at crash = stop.1

-- A DISK IN MEMORY

or_true : (a b : Bool) → b ≡ true → (a || b) ≡ true
or_true true b e = refl
or_true false b e = e

-- before its last stroke a disk that hasn't stopped does as it is armed
fate_open : (m : Held) (n : ℕ) → m.stop ≡ None → n ≤ last_count → fate_for m n ≡ fate_at m.arm n
fate_open m n runs early =
    let late : nat_lt last_count n ≡ false = search (rules, early) in
    cond-false (is_stopped_for m n) fate.Fails (fate_at m.arm n) (ap (λ (o : Option Outcome). is_some o || nat_lt last_count n) runs ∙ late)

pub unarmed_is : (m : Held) → m.stop ≡ None → m.arm ≡ None → IsUnarmed (told_of m)
unarmed_is m runs none = record { none = λ n after within fails. fails (fate_open m n runs within ∙ ap (λ (a : Option Armed). fate_at a n) none) }

fate_some : (what : Arm) → fate_by what ≢ fate.Done
fate_some Fail e = cc
fate_some (Crash outcome) e = cc

-- with a new arm it has that fuse
module _ (m : Held) (k : ℕ) (what : Arm) (runs : m.stop ≡ None) (later : 1 ≤ k) (early : m.clock + k ≤ last_count) where
  abbrev then_armed : Held
  then_armed = armed m k what

  there : fate_at then_armed.arm (m.clock + k) ≡ fate_by what
  there = cond-true (m.clock + k == m.clock + k) (fate_by what) fate.Done (eq-eqb (m.clock + k) (m.clock + k) refl)

  stops_by : (a : Arm) → fate_at then_armed.arm (m.clock + k) ≡ fate_by a → is_crash a ≡ true → is_stopped_after then_armed (m.clock + k) ≡ true
  stops_by Fail e crash = cc
  stops_by (Crash outcome) e crash = or_true (is_stopped_for then_armed (m.clock + k)) (is_stop (fate_at then_armed.arm (m.clock + k))) (ap is_stop e)

  goes_by : (a : Arm) → fate_at then_armed.arm (m.clock + k) ≡ fate_by a → is_crash a ≡ false → is_stopped_after then_armed (m.clock + k) ≡ true → ⊥
  goes_by Fail e fail stop =
      let late : nat_lt last_count (m.clock + k) ≡ false = search (rules, early) in
      let open_there : is_stopped_for then_armed (m.clock + k) ≡ false = ap (λ (o : Option Outcome). is_some o || nat_lt last_count (m.clock + k)) runs ∙ late in
      let no : is_stopped_after then_armed (m.clock + k) ≡ false = ap₂ (λ (a b : Bool). a || b) open_there (ap is_stop e) in cc
  goes_by (Crash outcome) e fail stop = cc

  pub armed_is : IsArmed (told_of then_armed) (record { left = k; what = what })
  armed_is = record {
    later = later;
    due = λ done. fate_some what (sym (fate_open then_armed (m.clock + k) runs early ∙ there) ∙ done);
    only = λ n after within fails. counted_at n within fails (m.clock + k == n) refl;
    stops = stops_by what there;
    goes_on = goes_by what there;
  }
    where
      counted_at : (n : ℕ) → n ≤ last_count → fate_for then_armed n ≢ fate.Done → (b : Bool) → (m.clock + k == n) ≡ b → n ≡ m.clock + k
      counted_at n within fails true e = sym (eqb-true (m.clock + k) n e)
      counted_at n within fails false e = absurd (fails (fate_open then_armed n runs within ∙ cond-false (m.clock + k == n) (fate_by what) fate.Done e))

-- A disk in memory with the same clock, stop and arm has the same fuse.
module _ (m new : Held) (clock : new.clock ≡ m.clock) (stop : new.stop ≡ m.stop) (arm : new.arm ≡ m.arm) where
  fate_same : (n : ℕ) → fate_for new n ≡ fate_for m n
  fate_same n = ap₂ (λ (s : Option Outcome) (a : Option Armed). cond (is_some s || nat_lt last_count n) fate.Fails (fate_at a n)) stop arm

  stop_same : (n : ℕ) → is_stopped_after new n ≡ is_stopped_after m n
  stop_same n = ap₂ (λ (s : Option Outcome) (a : Option Armed). (is_some s || nat_lt last_count n) || is_stop (fate_at a n)) stop arm

  fails_too : (n : ℕ) → fate_for new n ≢ fate.Done → fate_for m n ≢ fate.Done
  fails_too n fails done = fails (fate_same n ∙ done)

  fails_new : (n : ℕ) → fate_for m n ≢ fate.Done → fate_for new n ≢ fate.Done
  fails_new n fails done = fails (sym (fate_same n) ∙ done)

  pub fused_same : (fuse : Option Fuse) → IsFused (told_of m) fuse → IsFused (told_of new) fuse
  fused_same None lit = record { none = λ n after within fails. lit.none n (omega (arith, after, clock)) within (fails_too n fails) }
  fused_same (Some f) lit =
      let there : new.clock + f.left ≡ m.clock + f.left = omega (arith, clock) in
      record {
        later = lit.later;
        due = fails_new (new.clock + f.left) (subst (λ (n : ℕ). fate_for m n ≢ fate.Done) (sym there) lit.due);
        only = λ n after within fails. lit.only n (omega (arith, after, clock)) within (fails_too n fails) ∙ sym there;
        stops = λ crash. stop_same (new.clock + f.left) ∙ ap (is_stopped_after m) there ∙ lit.stops crash;
        goes_on = λ fail stops. lit.goes_on fail (sym (ap (is_stopped_after m) there) ∙ sym (stop_same (new.clock + f.left)) ∙ stops);
      }

-- one that has a fuse hasn't stopped, as long as it can count
pub runs_on : (m : Held) (fuse : Option Fuse) → IsFused (told_of m) fuse → m.clock + 2 ≤ last_count → m.stop ≡ None
runs_on m fuse lit early = go m.stop refl fuse lit
  where
    stopped : (o : Outcome) → m.stop ≡ Some o → (n : ℕ) → fate_for m n ≢ fate.Done
    stopped o is n done = let same : fate.Fails ≡ fate.Done = sym (ap (λ (s : Option Outcome). cond (is_some s || nat_lt last_count n) fate.Fails (fate_at m.arm n)) is) ∙ done in cc

    go : (s : Option Outcome) → m.stop ≡ s → (fuse : Option Fuse) → IsFused (told_of m) fuse → m.stop ≡ None
    go None is fuse lit = is
    go (Some o) is None lit = absurd (lit.none (m.clock + 1) (omega arith) (omega (arith, early)) (stopped o is (m.clock + 1)))
    go (Some o) is (Some f) lit =
        let one : m.clock + 1 ≡ m.clock + f.left = lit.only (m.clock + 1) (omega arith) (omega (arith, early)) (stopped o is (m.clock + 1)) in
        let two : m.clock + 2 ≡ m.clock + f.left = lit.only (m.clock + 2) (omega arith) (omega (arith, early)) (stopped o is (m.clock + 2)) in
        absurd (omega (arith, one, two))
