-- A fleet comes to its end as the machine does, unit by unit.
use Rattle.std.proofs.Common.{◌≡◌, inl, inr, ℕ, zero, suc, ◌+◌, ◌<◌, ◌≤◌, cond, Bool, true, false, List, [], ◌∷◌, ◌++◌, map, length, slice_get, slice_set, get_or, unwrap_or, Option, Some, None, refl, sym, ap, ap₂, ◌∙◌, subst, arith, append_assoc}
use Rattle.std.proofs.lemmas.List.{length-map, length-append, map-append, append-nil}
use Rattle.std.proofs.lemmas.Option.{slice_get_within, slice_get-get_or, unwrap_or-slice_get}
use Rattle.std.proofs.Math.Seq.{set-append_seam}
use Rattle.wf_model.specs.Limits.{max_lines}
use Rattle.wf_model.specs.Faults.{last_count}
use Rattle.wf_model.specs.declared.ids.UnitId.{UnitId}
use Rattle.wf_model.specs.declared.chart.Chart.{Chart}
use Rattle.wf_machine.specs.declared.reply.Reply.TheVariants as reply
use Rattle.wf_machine.specs.Bars.{Bar}
use Rattle.wf_machine.specs.Server.{Health, Works, Failed, IsDown, Server, recovered}
use Rattle.wf_machine.specs.Machine.{CountingMachine, all_units, server as server_in, with_server, merged_places}
use Rattle.wf_machine.specs.Sights.{sight_of}
use Rattle.wf_machine.specs.declared.admission.Place.{Place}
use Rattle.wf_machine.specs.declared.reply.Sight.{Sight}
use Rattle.wf_machine.specs.declared.ending.Ending.{Ending}
use Rattle.wf_machine.specs.Lines.{unless}
use Rattle.wf_machine.specs.Runs.{is_lost, at_end_by, all_at_end, closed, recovery_of, recoveries, ending_of, ending, MayEnd}
use Rattle.wf_machine.specs.Account.{IsAccount, MachineGrows, Grows}
use Rattle.wf_machine.specs.Postings.{IsPosted, records}
use Rattle.wf_machine.proofs.Accounts.{at_server, same_units, kept as account_kept, same_may}
use Rattle.wf_machine.proofs.Posting.{one_posted}
use Rattle.wf_histories.specs.Histories.{taken}
use Rattle.wf_slot.specs.Slots.{SlotState, unit_of, server}
use Rattle.wf_slot.specs.Answers.{Goes, RecoveryWrites, Ends, counts_if_lost}
use Rattle.wf_world.specs.declared.mail.Sent.{Sent}
use Rattle.wf_world.specs.Machines.{machine_of}
use Rattle.wf_world.specs.Fleets.{FleetState, units_of, machine_at, slot_at, IsFleet, ahead, IsWorn, AreWorn, WearsNone, DoWork, EndsOne, counted_by, AreEnding, IsEnding}
use Rattle.wf_world.proofs.Machines.{server_is, with_is}
use Rattle.wf_world.proofs.Sounds.{get_there}
use Rattle.wf_world.proofs.Endings.{recoveries_push, recovery_is}
use Rattle.wf_world.proofs.Fleets.{at_units, replaced, kept_sound, kept_each, wears_none}
use Rattle.wf_world.proofs.Following.{stays}
use Rattle.wf_world.proofs.Asking.{old_held, recover_leads, recovery_counts}

none_some : {A : Type 0} (x : A) → None ≡ Some x → ⊥
none_some x e = cc

some_same : {A : Type 0} (x y : A) → Some x ≡ Some y → x ≡ y
some_same x y e = cc

-- WITHOUT ITS ARM

module _ (f : FleetState) (is : IsFleet f) (u : UnitId) (s : SlotState) (at : slice_get f.slots u.0 ≡ Some s) where
  abbrev unarmed : SlotState
  unarmed = record s { fuse = None }

  abbrev m : CountingMachine
  m = machine_at f

  abbrev bare : Server
  bare = record (server_in (machine_at f) u.0) { fuse = None }

  here : server_in (machine_at f) u.0 ≡ server s
  here = server_is (units_of f.slots) f.messages u.0 (unit_of s) (at_units f is u.0 s at)

  machine_is : with_server (machine_at f) u.0 bare ≡ machine_of (slice_set (units_of f.slots) u.0 (unit_of unarmed)) f.messages
  machine_is = ap (λ (x : Server). with_server (machine_at f) u.0 (record x { fuse = None })) here ∙ with_is (units_of f.slots) f.messages u.0 (unit_of unarmed)

  grows : MachineGrows (machine_at f) (with_server (machine_at f) u.0 bare)
  grows =
      let same = stays f.chart (machine_at f) in
      record {
        units = same_units (machine_at f) u.0 bare;
        each = at_server (machine_at f) u.0 bare (λ v x. Grows (server_in (machine_at f) v) x) (let g = same.grows.each u.0 in record { more = g.more; later = g.later; admissions = g.admissions; sealed = g.sealed }) same.grows.each;
      }

  account : IsAccount (with_server (machine_at f) u.0 bare)
  account =
      let may = same_may (machine_at f) is.account u.0 in
      account_kept (machine_at f) u.0 bare is.account (record { sealed = may.sealed; more = may.more; near = may.near; came = may.came; certain = may.certain; ready = may.ready; enough = may.enough })

  posted : IsPosted (with_server (machine_at f) u.0 bare)
  posted = let old = is.posted u.0 in one_posted (machine_at f) u.0 bare is.posted (record { came = old.came; steps = old.steps; doubt = old.doubt })

  abbrev disarmed : FleetState
  disarmed = record f { slots = slice_set f.slots u.0 unarmed }

  pub disarmed_fleet : IsFleet disarmed
  disarmed_fleet =
      replaced f is u.0 s at unarmed (kept_sound f is u.0 s at unarmed refl refl (old_held f is u s at) (is.each u.0 s at).doubt) (kept_each f is u.0 s at unarmed refl refl (old_held f is u s at) (is.each u.0 s at).doubt)
      (subst (MachineGrows (machine_at f)) machine_is grows) (subst IsAccount machine_is account) (subst IsPosted machine_is posted)

  at_disarmed : slice_get disarmed.slots u.0 ≡ Some unarmed
  at_disarmed = get_there f.slots u.0 unarmed (slice_get_within f.slots u.0 s at)

  -- TO ITS END
  module _ (t : SlotState) where
    abbrev then : FleetState
    then = record f { slots = slice_set f.slots u.0 t }

    set_twice : {A : Type 0} (xs : List A) (i : ℕ) (x y : A) → slice_set (slice_set xs i x) i y ≡ slice_set xs i y
    set_twice [] i x y = refl
    set_twice (z ∷ zs) zero x y = refl
    set_twice {A} (z ∷ zs) (suc i) x y = ap (λ (ws : List A). z ∷ ws) (set_twice zs i x y)

    then_is : record disarmed { slots = slice_set disarmed.slots u.0 t } ≡ then
    then_is = ap (λ (xs : List SlotState). record f { slots = xs }) (set_twice f.slots u.0 unarmed t)

    -- the same writes, behind its arm
    writes_on : RecoveryWrites s t → RecoveryWrites unarmed t
    writes_on (inl writes) = inl (writes.0, writes.1, writes.2)
    writes_on (inr writes) = let w = writes.2 in inr (writes.0, writes.1, record { past = w.past; held = w.held; doubt = w.doubt })

    lost_fleet : (ends : Ends s t) → is_lost s.health ≡ true → RecoveryWrites s t → Goes 1 s t → IsFleet then
    lost_fleet ends lost writes goes =
        let did = recovered ends.stands (server unarmed) in
        let end : did.1 ≡ server t = sym (ap (λ (b : Bool). at_end_by b ends.stands (server s)) lost) ∙ ends.server in
        let both : did ≡ (did.0, server t) = ap (λ (x : Server). pair did.0 x) end in
        subst IsFleet then_is
        (recover_leads disarmed disarmed_fleet u unarmed at_disarmed t (unless (reply.Recovered (taken t.past) (length t.past.admissions)) did.0) (ends.stands, did.0, both, refl) (writes_on writes) (record { part = goes.part; clock = goes.clock })).fleet
      where
        pair : Option Bar → Server → Option Bar × Server
        pair bar x = (bar, x)

    pub ends_fleet : (ends : Ends s t) → RecoveryWrites s t → Goes 1 s t → (s.health ≡ Works → t ≡ unarmed) → IsFleet then
    ends_fleet ends writes goes calm = go s.health refl
      where
        go : (x : Health) → s.health ≡ x → IsFleet then
        go Works is_works = subst (λ (y : SlotState). IsFleet (record f { slots = slice_set f.slots u.0 y })) (sym (calm is_works)) disarmed_fleet
        go Failed is_failed = lost_fleet ends (ap is_lost is_failed) writes goes
        go IsDown is_down = lost_fleet ends (ap is_lost is_down) writes goes

    pub ends_worn : (ends : Ends s t) → RecoveryWrites s t → Goes 1 s t → (s.health ≡ Works → t ≡ unarmed) → WearsNone f then
    ends_worn ends writes goes calm = wears_none f is u.0 s at t (worn s.health refl)
      where
        few : records (server t) ≤ records (server s)
        few = recovery_counts s t writes

        works : ahead t.health ≡ 0
        works = ap ahead ends.works

        worn : (x : Health) → s.health ≡ x → (k : ℕ) → IsWorn k s → IsWorn k t
        worn Works is_works k old =
            let a = old.clock in let b : t.clock ≡ s.clock = ap (λ (y : SlotState). y.clock) (calm is_works) in let c = works in let d = few in let e = old.records in
            record { clock = omega (arith, a, b, c); records = omega (arith, d, e) }
        worn Failed is_failed k old =
            let a = old.clock in let b = goes.clock in let c = works in let d = few in let e = old.records in let g : ahead s.health ≡ 4 = ap ahead is_failed in
            record { clock = omega (arith, a, b, c, g); records = omega (arith, d, e) }
        worn IsDown is_down k old =
            let a = old.clock in let b = goes.clock in let c = works in let d = few in let e = old.records in let g : ahead s.health ≡ 4 = ap ahead is_down in
            record { clock = omega (arith, a, b, c, g); records = omega (arith, d, e) }

-- ITS COUNTS, where it was lost

pub counts_are : (u : UnitId) (s t : SlotState) → counted_by u (counts_if_lost s t) ≡ recovery_of (is_lost s.health) u.0 (server t)
counts_are u s t = go (is_lost s.health)
  where
    go : (b : Bool) → counted_by u (cond b (Some (taken t.past, length t.past.admissions)) None) ≡ recovery_of b u.0 (server t)
    go true = sym (recovery_is u.0 (unit_of t))
    go false = refl

-- ONE AFTER ANOTHER

pub none_ended : (f : FleetState) → IsFleet f → IsEnding f f 0 []
none_ended f is = record {
  before = [];
  after = [];
  others = f.slots;
  old_slots = refl;
  new_slots = refl;
  size = refl;
  ends = tt;
  counts = refl;
  chart = refl;
  messages = refl;
  fleet = is;
  worn = λ n worn. worn;
}

ending_push : (xs ys : List SlotState) (x y : SlotState) → AreEnding xs ys → Ends x y → AreEnding (xs ++ x ∷ []) (ys ++ y ∷ [])
ending_push [] [] x y are it = (it, tt)
ending_push [] (b ∷ bs) x y are it = absurd are
ending_push (a ∷ as_) [] x y are it = absurd are
ending_push (a ∷ as_) (b ∷ bs) x y are it = (are.0, ending_push as_ bs x y are.1 it)

same_length : (xs ys : List SlotState) → AreEnding xs ys → length ys ≡ length xs
same_length [] [] are = refl
same_length [] (b ∷ bs) are = absurd are
same_length (a ∷ as_) [] are = absurd are
same_length (a ∷ as_) (b ∷ bs) are = ap suc (same_length as_ bs are.1)

at_seam : (xs : List SlotState) (y : SlotState) (ys : List SlotState) (d : SlotState) → unwrap_or (slice_get (xs ++ y ∷ ys) (length xs)) d ≡ y
at_seam [] y ys d = refl
at_seam (x ∷ xs) y ys d = at_seam xs y ys d

module _ (f g : FleetState) (u : UnitId) (recovered : List (UnitId × ℕ × ℕ)) (so_far : IsEnding f g u.0 recovered) (k : FleetState) (one : EndsOne g u.0 k) where
  after_size : length so_far.after ≡ u.0
  after_size = same_length so_far.before so_far.after so_far.ends ∙ so_far.size

  -- the next slot is the first of the others
  module _ (x : SlotState) (xs : List SlotState) (split : so_far.others ≡ x ∷ xs) where
    g_slots : g.slots ≡ so_far.after ++ x ∷ xs
    g_slots = so_far.new_slots ∙ ap (λ (ys : List SlotState). so_far.after ++ ys) split

    here_is : slot_at g u.0 ≡ x
    here_is =
        ap₂ (λ (ys : List SlotState) (i : ℕ). unwrap_or (slice_get ys i) none) g_slots (sym after_size)
        ∙ at_seam so_far.after x xs none
      where
        none : SlotState
        none = slot_at (record g { slots = [] }) u.0

    k_slots : k.slots ≡ (so_far.after ++ one.t ∷ []) ++ xs
    k_slots =
        ap (λ (y : FleetState). y.slots) one.after
        ∙ ap₂ (λ (ys : List SlotState) (i : ℕ). slice_set ys i one.t) g_slots (sym after_size)
        ∙ set-append_seam so_far.after x xs one.t
        ∙ sym (append_assoc so_far.after (one.t ∷ []) xs)

    next_by : (more : List (UnitId × ℕ × ℕ)) → more ≡ recovered ++ recovery_of (is_lost (slot_at g u.0).health) u.0 (server one.t) → IsEnding f k (u.0 + 1) more
    next_by more counts =
        let long = length-append so_far.before (x ∷ []) in
        let size = so_far.size in
        record {
          before = so_far.before ++ x ∷ [];
          after = so_far.after ++ one.t ∷ [];
          others = xs;
          old_slots = so_far.old_slots ∙ ap (λ (ys : List SlotState). so_far.before ++ ys) split ∙ sym (append_assoc so_far.before (x ∷ []) xs);
          new_slots = k_slots;
          size = omega (arith, long, size);
          ends = ending_push so_far.before so_far.after x one.t so_far.ends (subst (λ (y : SlotState). Ends y one.t) here_is one.ends);
          counts = counts
              ∙ ap₂ (λ (l : List (UnitId × ℕ × ℕ)) (y : SlotState). l ++ recovery_of (is_lost y.health) u.0 (server one.t)) so_far.counts here_is
              ∙ ap (λ (i : ℕ). recoveries 0 (map server so_far.before) (map server so_far.after) ++ recovery_of (is_lost x.health) i (server one.t)) place
              ∙ sym (recoveries_push 0 (map server so_far.before) (map server so_far.after) (server x) (server one.t) servers_long)
              ∙ ap₂ (λ (a b : List Server). recoveries 0 a b) (sym (map-append server so_far.before (x ∷ []))) (sym (map-append server so_far.after (one.t ∷ [])));
          chart = ap (λ (y : FleetState). y.chart) one.after ∙ so_far.chart;
          messages = ap (λ (y : FleetState). y.messages) one.after ∙ so_far.messages;
          fleet = one.fleet;
          worn = λ n worn. one.worn n (so_far.worn n worn);
        }
      where
        place : u.0 ≡ 0 + length (map server so_far.before)
        place = let a = length-map so_far.before server in let b = so_far.size in omega (arith, a, b)

        servers_long : length (map server so_far.after) ≡ length (map server so_far.before)
        servers_long = length-map so_far.after server ∙ same_length so_far.before so_far.after so_far.ends ∙ sym (length-map so_far.before server)

  pub one_ended : (more : List (UnitId × ℕ × ℕ)) → u.0 < length g.slots → more ≡ recovered ++ recovery_of (is_lost (slot_at g u.0).health) u.0 (server one.t) → IsEnding f k (u.0 + 1) more
  one_ended more lt counts = go so_far.others refl
    where
      go : (ys : List SlotState) → so_far.others ≡ ys → IsEnding f k (u.0 + 1) more
      go [] none =
          let a : length g.slots ≡ length (so_far.after ++ []) = ap (λ (l : List SlotState). length l) (so_far.new_slots ∙ ap (λ (ys : List SlotState). so_far.after ++ ys) none) in
          let b = ap (λ (l : List SlotState). length l) (append-nil so_far.after) in
          let c = after_size in
          absurd (omega (arith, lt, a, b, c))
      go (x ∷ xs) split = next_by x xs split more counts

-- ALL OF THEM

ended_all : (xs ys : List SlotState) → AreEnding xs ys → (bs : List Bool) × (all_at_end bs (map server xs) ≡ map server ys)
ended_all [] [] are = ([], refl)
ended_all [] (y ∷ ys) are = absurd are
ended_all (x ∷ xs) [] are = absurd are
ended_all (x ∷ xs) (y ∷ ys) are =
    let rest = ended_all xs ys are.1 in
    (are.0.stands ∷ rest.0, ap₂ (λ (s : Server) (ss : List Server). s ∷ ss) are.0.server rest.1)

module _ (f g : FleetState) (recovered : List (UnitId × ℕ × ℕ)) (all : IsEnding f g (length f.slots) recovered) where
  no_others : all.others ≡ []
  no_others = go all.others refl
    where
      go : (ys : List SlotState) → all.others ≡ ys → all.others ≡ []
      go [] e = e
      go (y ∷ ys) e =
          let a : length f.slots ≡ length (all.before ++ y ∷ ys) = ap (λ (l : List SlotState). length l) (all.old_slots ∙ ap (λ (zs : List SlotState). all.before ++ zs) e) in
          let b = length-append all.before (y ∷ ys) in
          let c = all.size in
          absurd (omega (arith, a, b, c))

  before_is : f.slots ≡ all.before
  before_is = all.old_slots ∙ ap (λ (ys : List SlotState). all.before ++ ys) no_others ∙ append-nil all.before

  after_is : g.slots ≡ all.after
  after_is = all.new_slots ∙ ap (λ (ys : List SlotState). all.after ++ ys) no_others ∙ append-nil all.after

  servers_of : (xs : List SlotState) → (machine_of (units_of xs) f.messages).servers ≡ map server xs
  servers_of [] = refl
  servers_of (x ∷ xs) = ap (λ (ss : List Server). server x ∷ ss) (servers_of xs)

  -- the machine came to its end by some outcomes
  pub is_closed : (bs : List Bool) × (closed (machine_at f) bs ≡ machine_at g)
  unfolding closed
  is_closed =
      let ended = ended_all all.before all.after all.ends in (
        ended.0,
        ap (λ (ss : List Server). record (machine_at f) { servers = ss })
            (ap (all_at_end ended.0) (servers_of f.slots ∙ ap (map server) before_is) ∙ ended.1 ∙ ap (map server) (sym after_is) ∙ sym (servers_of g.slots))
            ∙ ap (λ (ms : List Sent). machine_of (units_of g.slots) ms) (sym all.messages),
      )

  pub recovered_are : recovered ≡ recoveries 0 (machine_at f).servers (machine_at g).servers
  recovered_are =
      all.counts
      ∙ ap₂ (λ (a b : List Server). recoveries 0 a b) (ap (map server) (sym before_is) ∙ sym (servers_of f.slots)) (ap (map server) (sym after_is) ∙ sym (servers_of g.slots))

-- each works then
works_at : (xs ys : List SlotState) (u : ℕ) (y : SlotState) → AreEnding xs ys → slice_get ys u ≡ Some y → y.health ≡ Works
works_at [] [] u y are at = absurd (none_some y at)
works_at [] (b ∷ bs) u y are at = absurd are
works_at (a ∷ as_) [] u y are at = absurd are
works_at (a ∷ as_) (b ∷ bs) zero y are at = subst (λ (x : SlotState). x.health ≡ Works) (some_same b y at) are.0.works
works_at (a ∷ as_) (b ∷ bs) (suc u) y are at = works_at as_ bs u y are.1 at

pub all_work : (f g : FleetState) (recovered : List (UnitId × ℕ × ℕ)) → IsEnding f g (length f.slots) recovered → DoWork g.slots
all_work f g recovered all u s at = works_at all.before all.after u s all.ends (sym (ap (λ (xs : List SlotState). slice_get xs u) (after_is f g recovered all)) ∙ at)

-- THE ENDING
pub ends_so : (f g : FleetState) (recovered : List (UnitId × ℕ × ℕ)) (sights : List Sight) (merged : List (List Place)) → IsEnding f g (length f.slots) recovered → sights ≡ map (sight_of g.chart (machine_at g)) (all_units (machine_at g)) →
    merged ≡ merged_places (machine_at g) → MayEnd f.chart (machine_at f) (record { recovered = recovered; sights = sights; merged = merged }) (machine_at g)
unfolding ending
ends_so f g recovered sights merged all sights_are merged_is =
    let did = is_closed f g recovered all in (
      did.0,
      ap (ending_of f.chart (machine_at f)) did.1
          ∙ ap₂ (λ (rs : List (UnitId × ℕ × ℕ)) (ss : List Sight). ended rs ss (merged_places (machine_at g))) (sym (recovered_are f g recovered all))
          (ap (λ (chart : Chart). map (sight_of chart (machine_at g)) (all_units (machine_at g))) (sym all.chart) ∙ sym sights_are)
          ∙ ap (λ (ms : List (List Place)). ended recovered sights ms) (sym merged_is),
      did.1,
    )
  where
    ended : List (UnitId × ℕ × ℕ) → List Sight → List (List Place) → Ending
    ended rs ss ms = record { recovered = rs; sights = ss; merged = ms }

-- the slot of a unit after its end
pub ended_slot : (g k : FleetState) (u : ℕ) (one : EndsOne g u k) → u < length g.slots → slot_at k u ≡ one.t
ended_slot g k u one lt = ap (λ (y : FleetState). slot_at y u) one.after ∙ ap (λ (o : Option SlotState). unwrap_or o (slot_at (record g { slots = [] }) u)) (get_there g.slots u one.t lt)

-- a disk has strokes left
pub early_at : (g : FleetState) (n u : ℕ) → n ≤ max_lines → AreWorn (λ v. n) g.slots → u < length g.slots → (slot_at g u).clock + 2000 ≤ last_count
early_at g n u few worn lt =
    let none : SlotState = slot_at (record g { slots = [] }) u in
    let there : slice_get g.slots u ≡ Some (get_or g.slots u none) = slice_get-get_or g.slots u none lt in
    let is : slot_at g u ≡ get_or g.slots u none = unwrap_or-slice_get g.slots u none in
    let a = (worn u (get_or g.slots u none) there).clock in
    subst (λ (x : SlotState). x.clock + 2000 ≤ last_count) (sym is) (omega (arith, a, few))
