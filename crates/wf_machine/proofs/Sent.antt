-- What a server took in is no more than what was sent, and its records are no more than the lines.
use Rattle.std.proofs.Common.{◌≡◌, ℕ, zero, suc, ◌+◌, ◌<◌, ◌≤◌, ◌==◌, ◌&&◌, ◌||◌, not, nat_le, nat_lt, cond, Bool, true, false, List, [], ◌∷◌, filter, length, Option, Some, None, Result, Ok, Err, inl, inr, refl, sym, ap, ap₂, ◌∙◌, arith, eqb-true, true≢false}
use Rattle.std.specs.List.{range_with_len, sum_by}
use Rattle.std.proofs.lemmas.List.{length-append}
use Rattle.std.proofs.lemmas.List.Sums.{sum_by-cons}
use Rattle.wf_model.specs.declared.outer.OuterFault.{OuterFault}
use Rattle.wf_model.specs.declared.chart.Chart.{Chart}
use Rattle.wf_disk.specs.declared.arm.Arm.TheVariants as arms
use Rattle.wf_model.proofs.Bools.{Mem, or_cases, and_both}
use Rattle.wf_semantics.proofs.Lists.{range_mem, filter_mem}
use Rattle.wf_machine.specs.declared.admission.Admission.{Admission}
use Rattle.wf_machine.specs.declared.line.Line.{Line}
use Rattle.wf_machine.specs.declared.line.Line.TheVariants as line
use Rattle.wf_machine.specs.Strokes.{Fuse, Met, Done, SetOff, strokes}
use Rattle.wf_machine.specs.Bars.{Bar}
use Rattle.wf_machine.specs.Server.{Health, Works, Failed, IsDown, Record, Admits, Turns, Server, nothing, taken, stand, doubted, written_by, written, next_turn, settled, recovered_by, recovered}
use Rattle.wf_machine.specs.Machine.{Message, CountingMachine, first_machine, all_units, server, with_server, message_at}
use Rattle.wf_machine.specs.Lines.{bar_at, admit_by, asked, lets, admit, missing, turn_by, turned, after_turn, send_by, send, with_came, received, come_by, deliver_by, deliver, crash_by, after_exchanges, after_turns, round, act}
use Rattle.wf_machine.specs.Runs.{first_outcome, other_outcomes, after_lines}
use Rattle.wf_machine.specs.Account.{IsAccount}
use Rattle.wf_machine.specs.Postings.{brings, was_sent, TakenWasSent, in_doubt, records, RecordsAreFew}
use Rattle.wf_machine.proofs.Accounts.{which, at_server, send_kept, deliver_kept, turn_kept, act_keeps, first_account, new_at}
use Rattle.wf_machine.proofs.Posting.{works_of, all_exchanged}

-- SUMS

sum_le : (f g : ℕ → ℕ) (xs : List ℕ) → ((x : ℕ) → Mem x xs → f x ≤ g x) → sum_by f xs ≤ sum_by g xs
sum_le f g [] h = omega arith
sum_le f g (x ∷ xs) h =
    let a = sum_by-cons f x xs in let b = sum_by-cons g x xs in
    let c = h x (inl refl) in let ih = sum_le f g xs (λ y m. h y (inr m)) in omega (arith, a, b, c, ih)

sum_plus : (f g : ℕ → ℕ) (xs : List ℕ) → sum_by (λ x. f x + g x) xs ≡ sum_by f xs + sum_by g xs
sum_plus f g [] = omega arith
sum_plus f g (x ∷ xs) =
    let a = sum_by-cons f x xs in let b = sum_by-cons g x xs in let c = sum_by-cons (λ x. f x + g x) x xs in
    let ih = sum_plus f g xs in omega (arith, a, b, c, ih)

sum_none : (f : ℕ → ℕ) (xs : List ℕ) → ((x : ℕ) → Mem x xs → f x ≡ 0) → sum_by f xs ≡ 0
sum_none f [] h = omega arith
sum_none f (x ∷ xs) h = let a = sum_by-cons f x xs in let b = h x (inl refl) in let ih = sum_none f xs (λ y m. h y (inr m)) in omega (arith, a, b, ih)

sum_kept : (p : ℕ → Bool) (f : ℕ → ℕ) (xs : List ℕ) → sum_by f (filter p xs) ≤ sum_by f xs
sum_kept p f [] = omega arith
sum_kept p f (x ∷ xs) = go (p x) (sum_kept p f xs)
  where
    go : (b : Bool) → sum_by f (filter p xs) ≤ sum_by f xs → sum_by f (cond b (x ∷ filter p xs) (filter p xs)) ≤ sum_by f (x ∷ xs)
    go true ih = let a = sum_by-cons f x xs in let b = sum_by-cons f x (filter p xs) in omega (arith, a, b, ih)
    go false ih = let a = sum_by-cons f x xs in omega (arith, a, ih)

-- of a range at most one number is s
one_hit : (f : ℕ → ℕ) (s a n : ℕ) → sum_by (λ j. cond (s == j) (f j) 0) (range_with_len a n) ≤ f s
one_hit f s a zero = omega arith
one_hit f s a (suc n) = go (s == a) refl (one_hit f s (a + 1) n)
  where
    hit : ℕ → ℕ
    hit j = cond (s == j) (f j) 0

    go : (b : Bool) → (s == a) ≡ b → sum_by (λ j. cond (s == j) (f j) 0) (range_with_len (a + 1) n) ≤ f s → sum_by (λ j. cond (s == j) (f j) 0) (a ∷ range_with_len (a + 1) n) ≤ f s
    go true e ih =
        let c = sum_by-cons (λ j. cond (s == j) (f j) 0) a (range_with_len (a + 1) n) in
        let at : s ≡ a = eqb-true s a e in
        let first : cond (s == a) (f a) 0 ≡ f s = ap (λ (b : Bool). cond b (f a) 0) e ∙ ap f (sym at) in
        let rest : sum_by (λ j. cond (s == j) (f j) 0) (range_with_len (a + 1) n) ≡ 0 =
        sum_none (λ j. cond (s == j) (f j) 0) (range_with_len (a + 1) n) (λ j m. let r = range_mem (a + 1) n j m in ap (λ (b : Bool). cond b (f j) 0) (Rattle.wf_model.proofs.Bools.not_true (s == j) (λ q. omega (arith, eqb-true s j q, at, r.0)))) in
        omega (arith, c, first, rest)
    go false e ih =
        let c = sum_by-cons (λ j. cond (s == j) (f j) 0) a (range_with_len (a + 1) n) in
        let first : cond (s == a) (f a) 0 ≡ 0 = ap (λ (b : Bool). cond b (f a) 0) e in
        omega (arith, c, first, ih)

module _ (size : ℕ → ℕ → ℕ → ℕ) (u n k : ℕ) where
  vs : List ℕ
  vs = filter (λ v. not (v == u)) (range_with_len 0 n)

  abbrev js : List ℕ
  js = range_with_len 1 k

  -- what this message brings of these
  abbrev brought : Message → ℕ → ℕ → ℕ
  brought x j v = cond (brings v u j x) (size v u j) 0

  abbrev by_unit : Message → ℕ → ℕ
  by_unit x j = cond (x.receiver == u) (size x.sender u j) 0

  one_step : (x : Message) (ws : List ℕ) → ((f : ℕ → ℕ) → sum_by (λ v. cond (x.sender == v) (f v) 0) ws ≤ f x.sender) → (j : ℕ) → sum_by (brought x j) ws ≤ cond (x.step == j) (by_unit x j) 0
  one_step x ws once j = go (x.step == j) refl (x.receiver == u) refl
    where
      go : (b : Bool) → (x.step == j) ≡ b → (r : Bool) → (x.receiver == u) ≡ r → sum_by (brought x j) ws ≤ cond b (cond r (size x.sender u j) 0) 0
      go true e true q =
          let a = once (λ v. size v u j) in
          let b = sum_le (brought x j) (λ v. cond (x.sender == v) (size v u j) 0) ws (λ v m. same v (x.sender == v) refl) in
          omega (arith, a, b)
        where
          same : (v : ℕ) (s : Bool) → (x.sender == v) ≡ s → cond (s && ((x.receiver == u) && (x.step == j))) (size v u j) 0 ≤ cond s (size v u j) 0
          same v true z = let w : cond ((x.receiver == u) && (x.step == j)) (size v u j) 0 ≡ size v u j = ap₂ (λ (c d : Bool). cond (c && d) (size v u j) 0) q e in omega (arith, w)
          same v false z = omega arith
      go true e false q = let a = sum_none (brought x j) ws (λ v m. none v (x.sender == v)) in omega (arith, a)
        where
          none : (v : ℕ) (s : Bool) → cond (s && ((x.receiver == u) && (x.step == j))) (size v u j) 0 ≡ 0
          none v true = ap (λ (c : Bool). cond (c && (x.step == j)) (size v u j) 0) q
          none v false = refl
      go false e r q = let a = sum_none (brought x j) ws (λ v m. none v (x.sender == v) (x.receiver == u)) in omega (arith, a)
        where
          none : (v : ℕ) (s c : Bool) → cond (s && (c && (x.step == j))) (size v u j) 0 ≡ 0
          none v true true = ap (λ (d : Bool). cond d (size v u j) 0) e
          none v true false = refl
          none v false c = refl

  once_in : (s : ℕ) (f : ℕ → ℕ) → sum_by (λ v. cond (s == v) (f v) 0) (filter (λ v. not (v == u)) (range_with_len 0 n)) ≤ f s
  once_in s f =
      let a = sum_kept (λ v. not (v == u)) (λ v. cond (s == v) (f v) 0) (range_with_len 0 n) in
      let b = one_hit f s 0 n in omega (arith, a, b)

  one_message : (x : Message) → sum_by (λ j. sum_by (brought x j) (filter (λ v. not (v == u)) (range_with_len 0 n))) js ≤ size x.sender x.receiver x.step
  one_message x =
      let ws : List ℕ = filter (λ v. not (v == u)) (range_with_len 0 n) in
      let a = sum_le (λ j. sum_by (brought x j) ws) (λ j. cond (x.step == j) (by_unit x j) 0) js (λ j m. one_step x ws (once_in x.sender) j) in
      let b = one_hit (by_unit x) x.step 1 k in
      let c = own (x.receiver == u) refl in
      omega (arith, a, b, c)
    where
      own : (r : Bool) → (x.receiver == u) ≡ r → cond (x.receiver == u) (size x.sender u x.step) 0 ≤ size x.sender x.receiver x.step
      own true q =
          let w : cond (x.receiver == u) (size x.sender u x.step) 0 ≡ size x.sender x.receiver x.step = ap (λ (b : Bool). cond b (size x.sender u x.step) 0) q ∙ ap (λ (i : ℕ). size x.sender i x.step) (sym (eqb-true x.receiver u q)) in
          omega (arith, w)
      own false q = let w : cond (x.receiver == u) (size x.sender u x.step) 0 ≡ 0 = ap (λ (b : Bool). cond b (size x.sender u x.step) 0) q in omega (arith, w)

  -- what these messages bring, each update once
  abbrev held : List Message → ℕ
  held xs = sum_by (λ j. sum_by (λ v. cond (was_sent xs v u j) (size v u j) 0) (filter (λ v. not (v == u)) (range_with_len 0 n))) js

  pub held_below : (xs : List Message) → held xs ≤ sum_by (λ (x : Message). size x.sender x.receiver x.step) xs
  held_below [] = let a = sum_none (λ j. sum_by (λ v. 0) (filter (λ v. not (v == u)) (range_with_len 0 n))) js (λ j m. sum_none (λ v. 0) (filter (λ v. not (v == u)) (range_with_len 0 n)) (λ v w. refl)) in omega (arith, a)
  held_below (x ∷ xs) =
      let ws : List ℕ = filter (λ v. not (v == u)) (range_with_len 0 n) in
      let a = sum_by-cons (λ (x : Message). size x.sender x.receiver x.step) x xs in
      let ih = held_below xs in
      let one = one_message x in
      let both = sum_le (λ j. sum_by (λ v. cond (brings v u j x || was_sent xs v u j) (size v u j) 0) ws) (λ j. sum_by (brought x j) ws + sum_by (λ v. cond (was_sent xs v u j) (size v u j) 0) ws) js (λ j m.
      let p = sum_le (λ v. cond (brings v u j x || was_sent xs v u j) (size v u j) 0) (λ v. brought x j v + cond (was_sent xs v u j) (size v u j) 0) ws (λ v w. either (brings v u j x) (was_sent xs v u j) (size v u j)) in
      let q = sum_plus (brought x j) (λ v. cond (was_sent xs v u j) (size v u j) 0) ws in omega (arith, p, q)) in
      let c = sum_plus (λ j. sum_by (brought x j) ws) (λ j. sum_by (λ v. cond (was_sent xs v u j) (size v u j) 0) ws) js in
      omega (arith, a, ih, one, both, c)
    where
      either : (b c : Bool) (s : ℕ) → cond (b || c) s 0 ≤ cond b s 0 + cond c s 0
      either true true s = omega arith
      either true false s = omega arith
      either false true s = omega arith
      either false false s = omega arith

pub taken_was_sent : TakenWasSent
taken_was_sent m size u is lt =
    let n : ℕ = length m.servers in
    let ws : List ℕ = filter (λ v. not (v == u)) (range_with_len 0 n) in
    let a = sum_le (λ j. sum_by (λ v. size v u j) ws) (λ j. sum_by (λ v. cond (was_sent m.messages v u j) (size v u j) 0) ws) (range_with_len 1 (taken (server m u))) (λ j mj.
    sum_le (λ v. size v u j) (λ v. cond (was_sent m.messages v u j) (size v u j) 0) ws (λ v mv.
    let f = filter_mem (λ v. not (v == u)) (range_with_len 0 n) v mv in
    let r = (range_mem 0 n v f.0).1 in
    let q = range_mem 1 (taken (server m u)) j mj in
    let lo = q.0 in let hi = q.1 in
    let sent : was_sent m.messages v u j ≡ true = (is u).steps v j lt (omega (arith, r)) (not_is (v == u) f.1) (omega (arith, lo)) (omega (arith, hi)) in
    let w : cond (was_sent m.messages v u j) (size v u j) 0 ≡ size v u j = ap (λ (b : Bool). cond b (size v u j) 0) sent in omega (arith, w))) in
    let b = held_below size u n (taken (server m u)) m.messages in
    omega (arith, a, b)
  where
    not_is : (b : Bool) → not b ≡ true → b ≡ false
    not_is true h = absurd (true≢false (sym h))
    not_is false h = refl

-- RECORDS

none_some : {A : Type 0} (x : A) → None ≡ Some x → ⊥
none_some x q = cc

-- no server has more than it had
abbrev Same : CountingMachine → CountingMachine → Type 0
Same m after = (v : ℕ) → records (server after v) ≤ records (server m v)

-- one server is changed
one_same : (m : CountingMachine) (u : ℕ) (s : Server) → records s ≤ records (server m u) → Same m (with_server m u s)
one_same m u s le = at_server m u s (λ v x. records x ≤ records (server m v)) le (λ v. omega arith)

one_more : (m : CountingMachine) (u : ℕ) (s : Server) → records s ≤ records (server m u) + 1 → (v : ℕ) → records (server (with_server m u s) v) ≤ records (server m v) + 1
one_more m u s le = at_server m u s (λ v x. records x ≤ records (server m v) + 1) le (λ v. omega arith)

stand_adds : (r : Record) (s : Server) → s.doubt ≡ None → records (stand r s) ≤ records s + 1
unfolding stand
stand_adds (Admits a) s e = let n = length-append s.admissions (a ∷ []) in omega (arith, n)
stand_adds (Turns k) s e = let n = length-append s.sealed (k ∷ []) in omega (arith, n)

written_adds : (r : Record) (s : Server) → s.doubt ≡ None → records (written r s).1 ≤ records s + 1
unfolding written
written_adds r s e = go (strokes 4 s.fuse)
  where
    few : (n : ℕ) → in_doubt (doubted n r) ≤ 1
    few n = pick (nat_lt n 3)
      where
        pick : (b : Bool) → in_doubt (cond b None (Some r)) ≤ 1
        pick true = omega arith
        pick false = omega arith

    go : (met : Met) → records (written_by r s met).1 ≤ records s + 1
    go (Done fuse) = let a = stand_adds r (record s { fuse = fuse }) e in omega (arith, a)
    go (SetOff n arms.Fail) = let a = few n in omega (arith, a)
    go (SetOff n (arms.Crash outcome)) = let a = few n in omega (arith, a)

recovered_adds : (b : Bool) (s : Server) → records (recovered b s).1 ≤ records s
unfolding recovered stand
recovered_adds b s = go (strokes 1 s.fuse)
  where
    settles : (fuse : Option Fuse) (b : Bool) (o : Option Record) → s.doubt ≡ o → records (record (settled b o s) { health = Works; came = nothing; fuse = fuse }) ≤ records s
    settles fuse b None e = omega arith
    settles fuse false (Some r) e = let d : in_doubt s.doubt ≡ 1 = ap in_doubt e in omega (arith, d)
    settles fuse true (Some (Admits a)) e = let d : in_doubt s.doubt ≡ 1 = ap in_doubt e in let n = length-append s.admissions (a ∷ []) in omega (arith, d, n)
    settles fuse true (Some (Turns k)) e = let d : in_doubt s.doubt ≡ 1 = ap in_doubt e in let n = length-append s.sealed (k ∷ []) in omega (arith, d, n)

    go : (met : Met) → records (recovered_by b s met).1 ≤ records s
    go (Done fuse) = settles fuse b s.doubt refl
    go (SetOff n what) = omega arith

module _ (m : CountingMachine) (is : IsAccount m) (u : ℕ) where
  admit_adds : (a : Admission) (bar : Option Bar) → bar_at (server m u).health ≡ bar → (known : Option (ℕ × Admission)) (may : Result (Unit {0}) OuterFault) → records (admit_by bar known may (server m u) a).1 ≤ records (server m u) + 1
  admit_adds a (Some bar) e known may = omega arith
  admit_adds a None e (Some x) may = omega arith
  admit_adds a None e None (Err fault) = omega arith
  admit_adds a None e None (Ok t) = written_adds (Admits a) (server m u) (is.certain u (works_of (server m u).health e))

  turn_adds_by : (bar : Option Bar) → bar_at (server m u).health ≡ bar → (vs : List ℕ) → records (turn_by bar vs (server m u)).1 ≤ records (server m u) + 1
  turn_adds_by (Some bar) e vs = omega arith
  turn_adds_by None e (v ∷ vs) = omega arith
  turn_adds_by None e [] = written_adds (next_turn (server m u)) (server m u) (is.certain u (works_of (server m u).health e))

  turn_adds : records (turned m u).1 ≤ records (server m u) + 1
  unfolding turned
  turn_adds = turn_adds_by (bar_at (server m u).health) refl (missing m u)

send_same : (m : CountingMachine) (u v : ℕ) → Same m (send m u v).after
unfolding send
send_same m u v = go (server m u).health
  where
    go : (h : Health) → Same m (send_by h m u v).after
    go Works w = omega arith
    go Failed w = omega arith
    go IsDown w = omega arith

deliver_same : (m : CountingMachine) (n : ℕ) → Same m (deliver m n).after
unfolding deliver
deliver_same m n = go (message_at m n)
  where
    stays : Same m m
    stays v = omega arith

    comes : (x : Message) → Same m (with_server m x.receiver (with_came x.sender x.step (server m x.receiver)))
    comes x = one_same m x.receiver (with_came x.sender x.step (server m x.receiver)) (omega arith)

    receives : (x : Message) (b : Bool) → nat_le x.step (taken (server m x.receiver)) ≡ b → (k : Bool) → (server m x.receiver).came x.sender x.step ≡ k → Same m (received m x (server m x.receiver)).after
    receives x true e k f = rw e stays
    receives x false e true f = rw e (rw f stays)
    receives x false e false f = rw e (rw f (comes x))

    by_health : (x : Message) (h : Health) → Same m (come_by h m x).after
    by_health x Works = receives x (nat_le x.step (taken (server m x.receiver))) refl ((server m x.receiver).came x.sender x.step) refl
    by_health x Failed = receives x (nat_le x.step (taken (server m x.receiver))) refl ((server m x.receiver).came x.sender x.step) refl
    by_health x IsDown = stays

    go : (o : Option Message) → Same m (deliver_by m o).after
    go None = stays
    go (Some x) = by_health x (server m x.receiver).health

-- turns of units from a on leave those below alone
low_same : (k a : ℕ) (m : CountingMachine) (v : ℕ) → v < a → server (after_turns m (range_with_len a k)) v ≡ server m v
low_same zero a m v lt = refl
low_same (suc k) a m v lt =
    low_same k (a + 1) (after_turn m a) v (omega (arith, lt))
    ∙ elim (which m a (turned m a).1 v) [
      | inl w ↦ let e = w.0 in absurd (omega (arith, e, lt))
      | inr e ↦ e
    ]

-- and add at most one record to each
turns_add : (k a : ℕ) (m : CountingMachine) → IsAccount m → (v : ℕ) → records (server (after_turns m (range_with_len a k)) v) ≤ records (server m v) + 1
turns_add zero a m is v = omega arith
turns_add (suc k) a m is v = elim (which m a (turned m a).1 v) [
  | inl w ↦
      let at = w.0 in
      let low : server (after_turns (after_turn m a) (range_with_len (a + 1) k)) v ≡ server (after_turn m a) v = low_same k (a + 1) (after_turn m a) v (omega (arith, at)) in
      let e : records (server (after_turns (after_turn m a) (range_with_len (a + 1) k)) v) ≡ records (server (after_turn m a) v) = ap (λ (s : Server). records s) low in
      let one = one_more m a (turned m a).1 (turn_adds m is a) v in
      omega (arith, e, one)
  | inr q ↦
      let e : records (server (after_turn m a) v) ≡ records (server m v) = ap (λ (s : Server). records s) q in
      let ih = turns_add k (a + 1) (after_turn m a) (turn_kept m a is) v in
      omega (arith, e, ih)
]

act_adds : (chart : Chart) (m : CountingMachine) (stands : Bool) (x : Line) → IsAccount m → (v : ℕ) → records (server (act chart m stands x).after v) ≤ records (server m v) + 1
unfolding act admit round
act_adds chart m stands (line.Admit u request outer) is v =
    one_more m u.0 (admit_by (bar_at (server m u.0).health) (asked request (server m u.0).admissions) (lets chart m u.0 outer) (server m u.0) (record { request = request; outer = outer })).1
    (admit_adds m is u.0 (record { request = request; outer = outer }) (bar_at (server m u.0).health) refl (asked request (server m u.0).admissions) (lets chart m u.0 outer)) v
act_adds chart m stands (line.Turn u) is v = one_more m u.0 (turned m u.0).1 (turn_adds m is u.0) v
act_adds chart m stands (line.Send x y) is v = let a = send_same m x.0 y.0 v in omega (arith, a)
act_adds chart m stands (line.Deliver n) is v = let a = deliver_same m n v in omega (arith, a)
act_adds chart m stands (line.Crash u outcome) is v = one_more m u.0 (crash_by (server m u.0).health (server m u.0)).1 (crashes (server m u.0).health) v
  where
    crashes : (h : Health) → records (crash_by h (server m u.0)).1 ≤ records (server m u.0) + 1
    crashes Works = omega arith
    crashes Failed = omega arith
    crashes IsDown = omega arith
act_adds chart m stands (line.Arm u n what) is v = one_more m u.0 (record (server m u.0) { fuse = Some (record { left = n; what = what }) }) (omega arith) v
act_adds chart m stands (line.Recover u) is v = one_more m u.0 (recovered stands (server m u.0)).1 (let a = recovered_adds stands (server m u.0) in omega (arith, a)) v
act_adds chart m stands (line.Show u) is v = omega arith
act_adds chart m stands (line.Items u) is v = omega arith
act_adds chart m stands line.Round is v =
    let q = all_exchanged (λ after. IsAccount after × Same m after) (λ a x y w. (send_kept a x y w.0, both a (send a x y).after w.1 (send_same a x y))) (λ a n w. (deliver_kept a n w.0, both a (deliver a n).after w.1 (deliver_same a n))) (all_units m) m (is, λ v. omega arith) in
    let a = q.1 v in
    let b = turns_add (length (after_exchanges m (all_units m)).servers) 0 (after_exchanges m (all_units m)) q.0 v in
    omega (arith, a, b)
  where
    both : (a b : CountingMachine) → Same m a → Same a b → Same m b
    both a b p q v = let x = p v in let y = q v in omega (arith, x, y)

lines_add : (chart : Chart) (bs : List Bool) (xs : List (ℕ × Line)) (m : CountingMachine) → IsAccount m → (u : ℕ) → records (server (after_lines chart m bs xs) u) ≤ records (server m u) + length xs
lines_add chart bs [] m is u = omega arith
lines_add chart bs (x ∷ xs) m is u =
    let a = act_adds chart m (first_outcome bs) x.1 is u in
    let b = lines_add chart (other_outcomes bs) xs (act chart m (first_outcome bs) x.1).after (act_keeps chart m (first_outcome bs) x.1 is) u in
    omega (arith, a, b)

pub records_are_few : RecordsAreFew
records_are_few chart bs xs u =
    let a = lines_add chart bs xs (first_machine chart) (first_account chart) u in
    let b : records (server (first_machine chart) u) ≡ 0 = ap (λ (s : Server). records s) (new_at (length chart.units) u) in
    omega (arith, a, b)
