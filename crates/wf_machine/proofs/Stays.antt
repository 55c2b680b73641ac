-- Later lines leave what was shown and sent as it was.
use Rattle.std.proofs.Common.{◌≡◌, ℕ, zero, suc, ◌+◌, ◌-◌, ◌<◌, ◌≤◌, nat_le, Bool, true, false, List, [], ◌∷◌, ◌++◌, map, flat_map, length, take, drop, get_or, Option, Some, None, Result, Ok, Err, unwrap_or, slice_get, inl, inr, refl, sym, ap, ap₂, ◌∙◌, arith}
use Rattle.std.specs.List.{sum, range_with_len}
use Rattle.std.proofs.lemmas.List.{append-nil, get_or_append_left, drop-append-le, take-append-le, length-drop}
use Rattle.std.proofs.lemmas.List.Sums.{sum_by_push, sum_by-take-le}
use Rattle.std.proofs.lemmas.Option.{unwrap_or-slice_get}
use Rattle.std.proofs.Math.Seq.{take-suc}
use Rattle.wf_model.specs.declared.outer.Outer.{Outer}
use Rattle.wf_model.specs.declared.outer.OuterFault.{OuterFault}
use Rattle.wf_model.specs.declared.outer.Entry.{Entry}
use Rattle.wf_model.specs.declared.chart.Chart.{Chart}
use Rattle.wf_disk.specs.declared.arm.Arm.TheVariants as arms
use Rattle.wf_semantics.specs.Run.{CentralState, central_run}
use Rattle.wf_model.proofs.Bools.{Mem}
use Rattle.wf_semantics.proofs.Lists.{range_mem}
use Rattle.wf_machine.specs.declared.admission.Admission.{Admission}
use Rattle.wf_machine.specs.declared.line.Line.{Line}
use Rattle.wf_machine.specs.declared.line.Line.TheVariants as line
use Rattle.wf_machine.specs.Strokes.{Fuse, Met, Done, SetOff, strokes}
use Rattle.wf_machine.specs.Bars.{Bar}
use Rattle.wf_machine.specs.Server.{Health, Works, Failed, IsDown, Record, Admits, Turns, Server, nothing, new_server, taken, sealed_at, outers_sealed, stand, fallen, broken, doubted, written_by, written, next_turn, settled, recovered_by, recovered}
use Rattle.wf_machine.specs.Machine.{Message, CountingMachine, all_units, server, with_server, message_at, entry_of, entries_at, central_at}
use Rattle.wf_machine.specs.Shares.{share_by, update_at}
use Rattle.wf_machine.specs.Lines.{bar_at, admit_by, asked, lets, admit, peers, missing, turn_by, turned, after_turn, send_by, send, with_came, received, come_by, deliver_by, deliver, crash_by, after_delivery, after_exchange, after_posts, after_exchanges, after_turns, round, act}
use Rattle.wf_machine.specs.Runs.{first_outcome, other_outcomes, after_lines, is_lost, at_end_by, all_at_end, closed}
use Rattle.wf_machine.specs.Account.{IsAccount, Grows, MachineGrows, ActGrows, SightsStay, UpdatesStay, SightsStayToEnd}
use Rattle.wf_machine.proofs.Accounts.{at_server, same_units}

-- GROWING

append_assoc : {A : Type 0} (xs ys zs : List A) → (xs ++ ys) ++ zs ≡ xs ++ (ys ++ zs)
append_assoc [] ys zs = refl
append_assoc {A} (x ∷ xs) ys zs = ap (λ (l : List A). x ∷ l) (append_assoc xs ys zs)

-- the same counts
same : (s t : Server) → t.admissions ≡ s.admissions → t.sealed ≡ s.sealed → Grows s t
same s t a b = record { more = []; later = []; admissions = a ∙ sym (append-nil s.admissions); sealed = b ∙ sym (append-nil s.sealed) }

on : (s t x : Server) → Grows s t → Grows t x → Grows s x
on s t x p q = record {
  more = p.more ++ q.more;
  later = p.later ++ q.later;
  admissions = q.admissions ∙ ap (λ (l : List Admission). l ++ q.more) p.admissions ∙ append_assoc s.admissions p.more q.more;
  sealed = q.sealed ∙ ap (λ (l : List ℕ). l ++ q.later) p.sealed ∙ append_assoc s.sealed p.later q.later;
}

stays : (m : CountingMachine) → MachineGrows m m
stays m = record { units = refl; each = λ u. same (server m u) (server m u) refl refl }

pub and_on : (m a b : CountingMachine) → MachineGrows m a → MachineGrows a b → MachineGrows m b
and_on m a b p q = record { units = q.units ∙ p.units; each = λ u. on (server m u) (server a u) (server b u) (p.each u) (q.each u) }

one_grows : (m : CountingMachine) (u : ℕ) (s : Server) → Grows (server m u) s → MachineGrows m (with_server m u s)
one_grows m u s g = record { units = same_units m u s; each = at_server m u s (λ v x. Grows (server m v) x) g (λ v. same (server m v) (server m v) refl refl) }

-- a record that stands, at a server with the same counts
stand_grows : (r : Record) (s t : Server) → t.admissions ≡ s.admissions → t.sealed ≡ s.sealed → Grows s (stand r t)
unfolding stand
stand_grows (Admits a) s t p q = record { more = a ∷ []; later = []; admissions = ap (λ (l : List Admission). l ++ a ∷ []) p; sealed = q ∙ sym (append-nil s.sealed) }
stand_grows (Turns n) s t p q = record { more = []; later = n ∷ []; admissions = p ∙ sym (append-nil s.admissions); sealed = ap (λ (l : List ℕ). l ++ n ∷ []) q }

written_grows : (r : Record) (s : Server) → Grows s (written r s).1
unfolding written
written_grows r s = go (strokes 4 s.fuse)
  where
    go : (met : Met) → Grows s (written_by r s met).1
    go (Done fuse) = stand_grows r s (record s { fuse = fuse }) refl refl
    go (SetOff n arms.Fail) = same s (broken arms.Fail (record s { doubt = doubted n r })) refl refl
    go (SetOff n (arms.Crash outcome)) = same s (broken (arms.Crash outcome) (record s { doubt = doubted n r })) refl refl

recovered_grows : (stands : Bool) (s : Server) → Grows s (recovered stands s).1
unfolding recovered stand
recovered_grows stands s = go (strokes 1 s.fuse)
  where
    settles : (fuse : Option Fuse) (stands : Bool) (o : Option Record) → Grows s (record (settled stands o s) { health = Works; came = nothing; fuse = fuse })
    settles fuse stands None = same s (record s { health = Works; came = nothing; fuse = fuse }) refl refl
    settles fuse false (Some r) = same s (record s { health = Works; came = nothing; fuse = fuse; doubt = None }) refl refl
    settles fuse true (Some (Admits a)) = record { more = a ∷ []; later = []; admissions = refl; sealed = sym (append-nil s.sealed) }
    settles fuse true (Some (Turns n)) = record { more = []; later = n ∷ []; admissions = sym (append-nil s.admissions); sealed = refl }

    go : (met : Met) → Grows s (recovered_by stands s met).1
    go (Done fuse) = settles fuse stands s.doubt
    go (SetOff n what) = same s (record (fallen s) { fuse = None }) refl refl

admit_grows : (s : Server) (a : Admission) (bar : Option Bar) (known : Option (ℕ × Admission)) (may : Result (Unit {0}) OuterFault) → Grows s (admit_by bar known may s a).1
admit_grows s a (Some bar) known may = same s s refl refl
admit_grows s a None (Some x) may = same s s refl refl
admit_grows s a None None (Err fault) = same s s refl refl
admit_grows s a None None (Ok t) = written_grows (Admits a) s

turn_grows : (s : Server) (bar : Option Bar) (vs : List ℕ) → Grows s (turn_by bar vs s).1
turn_grows s (Some bar) vs = same s s refl refl
turn_grows s None (v ∷ vs) = same s s refl refl
turn_grows s None [] = written_grows (next_turn s) s

turned_grows : (m : CountingMachine) (u : ℕ) → MachineGrows m (after_turn m u)
unfolding turned
turned_grows m u = one_grows m u (turned m u).1 (turn_grows (server m u) (bar_at (server m u).health) (missing m u))

send_grows : (m : CountingMachine) (u v : ℕ) → MachineGrows m (send m u v).after
unfolding send
send_grows m u v = go (server m u).health
  where
    go : (h : Health) → MachineGrows m (send_by h m u v).after
    go Works = record { units = refl; each = λ w. same (server m w) (server m w) refl refl }
    go Failed = record { units = refl; each = λ w. same (server m w) (server m w) refl refl }
    go IsDown = stays m

deliver_grows : (m : CountingMachine) (n : ℕ) → MachineGrows m (deliver m n).after
unfolding deliver
deliver_grows m n = go (message_at m n)
  where
    comes : (x : Message) → MachineGrows m (with_server m x.receiver (with_came x.sender x.step (server m x.receiver)))
    comes x = one_grows m x.receiver (with_came x.sender x.step (server m x.receiver)) (same (server m x.receiver) (with_came x.sender x.step (server m x.receiver)) refl refl)

    receives : (x : Message) (b : Bool) → nat_le x.step (taken (server m x.receiver)) ≡ b → (c : Bool) → (server m x.receiver).came x.sender x.step ≡ c → MachineGrows m (received m x (server m x.receiver)).after
    receives x true e c f = rw e (stays m)
    receives x false e true f = rw e (rw f (stays m))
    receives x false e false f = rw e (rw f (comes x))

    by_health : (x : Message) (h : Health) → MachineGrows m (come_by h m x).after
    by_health x Works = receives x (nat_le x.step (taken (server m x.receiver))) refl ((server m x.receiver).came x.sender x.step) refl
    by_health x Failed = receives x (nat_le x.step (taken (server m x.receiver))) refl ((server m x.receiver).came x.sender x.step) refl
    by_health x IsDown = stays m

    go : (o : Option Message) → MachineGrows m (deliver_by m o).after
    go None = stays m
    go (Some x) = by_health x (server m x.receiver).health

deliveries_grow : (ns : List ℕ) (m : CountingMachine) → MachineGrows m (after_delivery m ns)
deliveries_grow [] m = stays m
deliveries_grow (n ∷ ns) m = and_on m (deliver m n).after (after_delivery (deliver m n).after ns) (deliver_grows m n) (deliveries_grow ns (deliver m n).after)

posts_grow : (vs : List ℕ) (m : CountingMachine) (u : ℕ) → MachineGrows m (after_posts m u vs)
posts_grow [] m u = stays m
posts_grow (v ∷ vs) m u =
    and_on m (after_exchange m u v) (after_posts (after_exchange m u v) u vs)
    (and_on m (send m u v).after (after_exchange m u v) (send_grows m u v) (deliveries_grow (range_with_len (length m.messages + 1) (length (send m u v).after.messages - length m.messages)) (send m u v).after))
    (posts_grow vs (after_exchange m u v) u)

exchanges_grow : (us : List ℕ) (m : CountingMachine) → MachineGrows m (after_exchanges m us)
exchanges_grow [] m = stays m
exchanges_grow (u ∷ us) m = and_on m (after_posts m u (peers m u)) (after_exchanges (after_posts m u (peers m u)) us) (posts_grow (peers m u) m u) (exchanges_grow us (after_posts m u (peers m u)))

turns_grow : (us : List ℕ) (m : CountingMachine) → MachineGrows m (after_turns m us)
turns_grow [] m = stays m
turns_grow (u ∷ us) m = and_on m (after_turn m u) (after_turns (after_turn m u) us) (turned_grows m u) (turns_grow us (after_turn m u))

pub act_grows : ActGrows
unfolding act admit round
act_grows chart m stands (line.Admit u request outer) =
    one_grows m u.0 (admit_by (bar_at (server m u.0).health) (asked request (server m u.0).admissions) (lets chart m u.0 outer) (server m u.0) (record { request = request; outer = outer })).1
    (admit_grows (server m u.0) (record { request = request; outer = outer }) (bar_at (server m u.0).health) (asked request (server m u.0).admissions) (lets chart m u.0 outer))
act_grows chart m stands (line.Turn u) = turned_grows m u.0
act_grows chart m stands (line.Send u v) = send_grows m u.0 v.0
act_grows chart m stands (line.Deliver n) = deliver_grows m n
act_grows chart m stands (line.Crash u outcome) = one_grows m u.0 (crash_by (server m u.0).health (server m u.0)).1 (crashes (server m u.0).health)
  where
    crashes : (h : Health) → Grows (server m u.0) (crash_by h (server m u.0)).1
    crashes Works = same (server m u.0) (fallen (server m u.0)) refl refl
    crashes Failed = same (server m u.0) (fallen (server m u.0)) refl refl
    crashes IsDown = same (server m u.0) (server m u.0) refl refl
act_grows chart m stands (line.Arm u n what) = one_grows m u.0 (record (server m u.0) { fuse = Some (record { left = n; what = what }) }) (same (server m u.0) (record (server m u.0) { fuse = Some (record { left = n; what = what }) }) refl refl)
act_grows chart m stands (line.Recover u) = one_grows m u.0 (recovered stands (server m u.0)).1 (recovered_grows stands (server m u.0))
act_grows chart m stands (line.Show u) = stays m
act_grows chart m stands (line.Items u) = stays m
act_grows chart m stands line.Round =
    and_on m (after_exchanges m (all_units m)) (after_turns (after_exchanges m (all_units m)) (all_units (after_exchanges m (all_units m)))) (exchanges_grow (all_units m) m) (turns_grow (all_units (after_exchanges m (all_units m))) (after_exchanges m (all_units m)))

lines_grow : (chart : Chart) (xs : List (ℕ × Line)) (m : CountingMachine) (bs : List Bool) → MachineGrows m (after_lines chart m bs xs)
lines_grow chart [] m bs = stays m
lines_grow chart (x ∷ xs) m bs =
    and_on m (act chart m (first_outcome bs) x.1).after (after_lines chart (act chart m (first_outcome bs) x.1).after (other_outcomes bs) xs) (act_grows chart m (first_outcome bs) x.1)
    (lines_grow chart xs (act chart m (first_outcome bs) x.1).after (other_outcomes bs))

-- THE ENDING

end_grows : (b stands : Bool) (s : Server) → Grows s (at_end_by b stands s)
end_grows false stands s = same s (record s { fuse = None }) refl refl
end_grows true stands s = on s (record s { fuse = None }) (recovered stands (record s { fuse = None })).1 (same s (record s { fuse = None }) refl refl) (recovered_grows stands (record s { fuse = None }))

ends_long : (bs : List Bool) (ss : List Server) → length (all_at_end bs ss) ≡ length ss
ends_long bs [] = refl
ends_long bs (s ∷ ss) = ap suc (ends_long (other_outcomes bs) ss)

end_at : (bs : List Bool) (ss : List Server) (u : ℕ) → Grows (unwrap_or (slice_get ss u) new_server) (unwrap_or (slice_get (all_at_end bs ss) u) new_server)
end_at bs [] u = same new_server new_server refl refl
end_at bs (s ∷ ss) zero = end_grows (is_lost s.health) (first_outcome bs) s
end_at bs (s ∷ ss) (suc u) = end_at (other_outcomes bs) ss u

pub closed_grows : (m : CountingMachine) (bs : List Bool) → MachineGrows m (closed m bs)
unfolding closed
closed_grows m bs = record { units = ends_long bs m.servers; each = end_at bs m.servers }

-- WHAT WAS SEALED STAYS

-- the first i numbers and the next one are no more than all
sum_next : (xs : List ℕ) (i : ℕ) → i < length xs → sum (take i xs) + get_or xs i 0 ≤ sum xs
sum_next xs i l =
    let a : sum (take (suc i) xs) ≡ sum (take i xs) + get_or xs i 0 = ap sum (take-suc xs i 0 l) ∙ sum_by_push (λ x. x) (take i xs) (get_or xs i 0) in
    let b : sum (take (suc i) xs) ≤ sum xs = sum_by-take-le (λ x. x) xs (suc i) in
    omega arith

pub sealed_number : (xs : List ℕ) (i : ℕ) → sealed_at xs i ≡ get_or xs i 0
sealed_number xs i = unwrap_or-slice_get xs i 0

pub outers_on : (s t : Server) → Grows s t → sum s.sealed ≤ length s.admissions → (j : ℕ) → j ≤ taken s → outers_sealed t.admissions t.sealed j ≡ outers_sealed s.admissions s.sealed j
outers_on s t g fits zero l = refl
outers_on s t g fits (suc i) l =
    let lt : i < length s.sealed = omega arith in
    let below : sum (take i s.sealed) + get_or s.sealed i 0 ≤ length s.admissions = omega (arith, sum_next s.sealed i lt, fits) in
    ap (map (λ a. a.outer)) (
    ap₂ (λ (ss : List ℕ) (xs : List Admission). take (sealed_at ss i) (drop (sum (take i ss)) xs)) g.sealed g.admissions
    ∙ ap₂ (λ (k : ℕ) (b : List ℕ). take k (drop (sum b) (s.admissions ++ g.more))) (sealed_number (s.sealed ++ g.later) i ∙ get_or_append_left s.sealed g.later 0 i lt) (take-append-le i s.sealed g.later (omega arith))
    ∙ ap (take (get_or s.sealed i 0)) (drop-append-le (sum (take i s.sealed)) s.admissions g.more (omega arith))
    ∙ take-append-le (get_or s.sealed i 0) (drop (sum (take i s.sealed)) s.admissions) g.more (omega (arith, below, length-drop (sum (take i s.sealed)) s.admissions))
    ∙ ap (λ (k : ℕ). take k (drop (sum (take i s.sealed)) s.admissions)) (sym (sealed_number s.sealed i))
    )

flat_agree : {B : Type 0} (f g : ℕ → List B) (xs : List ℕ) → ((x : ℕ) → Mem x xs → f x ≡ g x) → flat_map f xs ≡ flat_map g xs
flat_agree f g [] h = refl
flat_agree {B} f g (x ∷ xs) h = ap₂ (λ (a b : List B). a ++ b) (h x (inl refl)) (flat_agree f g xs (λ y m. h y (inr m)))

map_agree : {B : Type 0} (f g : ℕ → B) (xs : List ℕ) → ((x : ℕ) → Mem x xs → f x ≡ g x) → map f xs ≡ map g xs
map_agree f g [] h = refl
map_agree {B} f g (x ∷ xs) h = ap₂ (λ (a : B) (b : List B). a ∷ b) (h x (inl refl)) (map_agree f g xs (λ y m. h y (inr m)))

module _ (m after : CountingMachine) (g : MachineGrows m after) (is : IsAccount m) where
  pub entries_on : (k : ℕ) → ((v : ℕ) → v < length m.servers → k ≤ taken (server m v) + 2) → entries_at after k ≡ entries_at m k
  unfolding entries_at
  entries_on zero le = refl
  entries_on (suc zero) le = refl
  entries_on (suc (suc j)) le =
      ap (λ (n : ℕ). flat_map (λ u. map (entry_of u) (outers_sealed (server after u).admissions (server after u).sealed j)) (range_with_len 0 n)) g.units
      ∙ flat_agree (λ u. map (entry_of u) (outers_sealed (server after u).admissions (server after u).sealed j)) (λ u. map (entry_of u) (outers_sealed (server m u).admissions (server m u).sealed j)) (all_units m) (λ u mem.
      let r = (range_mem 0 (length m.servers) u mem).1 in
      let b = le u (omega (arith, r)) in
      ap (map (entry_of u)) (outers_on (server m u) (server after u) (g.each u) (is.sealed u) j (omega (arith, b))))

  pub central_on : (chart : Chart) (k : ℕ) → ((v : ℕ) → v < length m.servers → k ≤ taken (server m v) + 2) → central_at chart after k ≡ central_at chart m k
  unfolding central_at
  central_on chart k le = ap (central_run chart) (map_agree (entries_at after) (entries_at m) (range_with_len 1 k) (λ i mem.
      let r = (range_mem 1 k i mem).1 in entries_on i (λ v lv. let b = le v lv in omega (arith, r, b))))

  pub shown_on : (chart : Chart) (u k : ℕ) → u < length m.servers → k ≤ taken (server m u) → central_at chart after k ≡ central_at chart m k
  shown_on chart u k lt le = central_on chart k (λ v lv. let n = is.near u v lt lv in omega (arith, le, n))

  pub update_on : (chart : Chart) (u j : ℕ) → u < length m.servers → j ≤ taken (server m u) + 1 → update_at chart after u j ≡ update_at chart m u j
  unfolding update_at
  update_on chart u j lt le =
      ap₂ (λ (c d : CentralState). share_by chart u j c (entries_at after j) d (outers_sealed (server after u).admissions (server after u).sealed (j - 1))) (central_on chart (j - 1) (λ v lv. let n = is.near u v lt lv in omega (arith, le, n))) (central_on chart j (λ v lv. let n = is.near u v lt lv in omega (arith, le, n)))
      ∙ ap₂ (λ (es : List Entry) (os : List Outer). share_by chart u j (central_at chart m (j - 1)) es (central_at chart m j) os) (entries_on j (λ v lv. let n = is.near u v lt lv in omega (arith, le, n))) (outers_on (server m u) (server after u) (g.each u) (is.sealed u) (j - 1) (omega (arith, le)))

pub sights_stay : SightsStay
sights_stay chart m stands x u k is lt le = shown_on m (act chart m stands x).after (act_grows chart m stands x) is chart u k lt le

pub updates_stay : UpdatesStay
updates_stay chart m stands x u j is lt le = update_on m (act chart m stands x).after (act_grows chart m stands x) is chart u j lt le

pub sights_stay_to_end : SightsStayToEnd
sights_stay_to_end chart m bs ends xs u k is lt le =
    shown_on m (closed (after_lines chart m bs xs) ends) (and_on m (after_lines chart m bs xs) (closed (after_lines chart m bs xs) ends) (lines_grow chart xs m bs) (closed_grows (after_lines chart m bs xs) ends)) is chart u k lt le
