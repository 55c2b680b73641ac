-- The account of the machine is kept by each line.
use Rattle.std.proofs.Common.{◌≡◌, ℕ, zero, suc, ◌+◌, ◌-◌, ◌<◌, ◌≤◌, ◌==◌, ◌&&◌, ◌⊎◌, not, nat_le, nat_lt, cond, Bool, true, false, List, [], ◌∷◌, ◌++◌, filter, length, Option, Some, None, Result, Ok, Err, unwrap_or, slice_get, inl, inr, refl, sym, ap, ◌∙◌, subst, arith, eqb-true, true≢false}
use Rattle.std.specs.List.{sum, range_with_len, slice_set}
use Rattle.std.proofs.lemmas.List.{length-append, length-set}
use Rattle.std.proofs.lemmas.List.Sums.{sum_by_push}
use Rattle.wf_model.specs.declared.outer.OuterFault.{OuterFault}
use Rattle.wf_model.specs.declared.chart.Chart.{Chart}
use Rattle.wf_disk.specs.declared.arm.Arm.TheVariants as arms
use Rattle.wf_machine.specs.declared.admission.Admission.{Admission}
use Rattle.wf_machine.specs.declared.line.Line.{Line}
use Rattle.wf_machine.specs.declared.line.Line.TheVariants as line
use Rattle.wf_machine.specs.declared.reply.Reply.TheVariants as reply
use Rattle.wf_machine.specs.Strokes.{Fuse, Met, Done, SetOff, strokes}
use Rattle.wf_machine.specs.Bars.{Bar}
use Rattle.wf_machine.specs.Server.{Health, Works, Failed, IsDown, Record, Admits, Turns, Server, nothing, new_server, taken, stand, fallen, broken, doubted, written_by, written, next_turn, settled, recovered_by, recovered}
use Rattle.wf_machine.specs.Machine.{Message, CountingMachine, first_machine, all_units, server, with_server, message_at}
use Rattle.wf_machine.specs.Lines.{Acted, bar_at, admit_by, asked, lets, admit, peers, missing, turn_by, turned, after_turn, letters, send_by, posted, send, with_came, received, come_by, deliver_by, deliver, crash_by, after_delivery, after_exchange, after_posts, after_exchanges, after_turns, round, act}
use Rattle.wf_machine.specs.Runs.{first_outcome, other_outcomes, after_lines}
use Rattle.wf_machine.specs.Account.{IsAccount, ActKeeps, AccountHolds}

-- LISTS

-- the item that was put there, or the one that was there
pub which_set : {A : Type 0} (xs : List A) (u v : ℕ) (x d : A) →
    ((v ≡ u) × (u < length xs) × (unwrap_or (slice_get (slice_set xs u x) v) d ≡ x)) ⊎ (unwrap_or (slice_get (slice_set xs u x) v) d ≡ unwrap_or (slice_get xs v) d)
which_set [] u v x d = inr refl
which_set (y ∷ ys) zero zero x d = inl (refl, omega arith, refl)
which_set (y ∷ ys) zero (suc v) x d = inr refl
which_set (y ∷ ys) (suc u) zero x d = inr refl
which_set (y ∷ ys) (suc u) (suc v) x d = elim (which_set ys u v x d) [
  | inl w ↦ let e = w.0 in let l = w.1 in inl (omega (arith, e), omega (arith, l), w.2)
  | inr e ↦ inr e
]

none_some : {A : Type 0} (x : A) → None ≡ Some x → ⊥
none_some x q = cc

pub slice_append : {A : Type 0} (xs ys : List A) (i : ℕ) (x : A) → slice_get (xs ++ ys) i ≡ Some x → (slice_get xs i ≡ Some x) ⊎ ((k : ℕ) × (slice_get ys k ≡ Some x))
slice_append [] ys i x e = inr (i, e)
slice_append (y ∷ xs) ys zero x e = inl e
slice_append (y ∷ xs) ys (suc i) x e = slice_append xs ys i x e

-- ONE SERVER IS CHANGED

module _ (m : CountingMachine) (u : ℕ) (s : Server) where
  pub which : (v : ℕ) → ((v ≡ u) × (u < length m.servers) × (server (with_server m u s) v ≡ s)) ⊎ (server (with_server m u s) v ≡ server m v)
  which v = which_set m.servers u v s new_server

  -- what holds of the new one, and of each old one
  pub at_server : (P : ℕ → Server → Type 0) → P u s → ((v : ℕ) → P v (server m v)) → (v : ℕ) → P v (server (with_server m u s) v)
  at_server P p q v = elim (which v) [
    | inl w ↦ subst (λ (x : Server). P v x) (sym w.2) (subst (λ (n : ℕ). P n s) (sym w.0) p)
    | inr e ↦ subst (λ (x : Server). P v x) (sym e) (q v)
  ]

  pub same_units : length (with_server m u s).servers ≡ length m.servers
  same_units = length-set m.servers u s

  -- what a server must have to take its place
  pub record May : Type 0 where
    pub sealed : sum s.sealed ≤ length s.admissions
    pub more : taken (server m u) ≤ taken s
    pub near : (v : ℕ) → u < length m.servers → v < length m.servers → taken s ≤ taken (server m v) + 1
    pub came : (v j : ℕ) → s.came v j ≡ true → j ≤ taken (server m v) + 1
    pub certain : s.health ≡ Works → s.doubt ≡ None
    pub ready : (v n : ℕ) → u < length m.servers → v < length m.servers → s.doubt ≡ Some (Turns n) → taken s ≤ taken (server m v)
    pub enough : (n : ℕ) → s.doubt ≡ Some (Turns n) → sum s.sealed + n ≤ length s.admissions

  module _ (is : IsAccount m) (may : May) where
    more_taken : (v : ℕ) → taken (server m v) ≤ taken (server (with_server m u s) v)
    more_taken = at_server (λ v x. taken (server m v) ≤ taken x) may.more (λ v. omega arith)

    pub kept : IsAccount (with_server m u s)
    kept = record {
      sealed = at_server (λ v x. sum x.sealed ≤ length x.admissions) may.sealed is.sealed;
      near = near;
      sent = λ n x e. let a = is.sent n x e in let b = more_taken x.sender in omega (arith, a, b);
      came = λ w v j h. let a = at_server (λ w x. x.came v j ≡ true → j ≤ taken (server m v) + 1) (may.came v j) (λ w. is.came w v j) w h in let b = more_taken v in omega (arith, a, b);
      certain = at_server (λ v x. x.health ≡ Works → x.doubt ≡ None) may.certain is.certain;
      ready = λ a b n la lb e. ready a b n la lb e (which b);
      enough = λ v n. at_server (λ v x. x.doubt ≡ Some (Turns n) → sum x.sealed + n ≤ length x.admissions) (may.enough n) (λ v. is.enough v n) v;
    }
      where
        near : (a b : ℕ) → a < length (with_server m u s).servers → b < length (with_server m u s).servers → taken (server (with_server m u s) a) ≤ taken (server (with_server m u s) b) + 1
        near a b la lb =
            let n = same_units in
            let lb' : b < length m.servers = omega (arith, lb, n) in
            let la' : a < length m.servers = omega (arith, la, n) in
            elim (which a) [
              | inl w ↦
                  let e : taken (server (with_server m u s) a) ≡ taken s = ap (λ (x : Server). taken x) w.2 in
                  let c = may.near b w.1 lb' in let d = more_taken b in omega (arith, e, c, d)
              | inr q ↦
                  let e : taken (server (with_server m u s) a) ≡ taken (server m a) = ap (λ (x : Server). taken x) q in
                  let c = is.near a b la' lb' in let d = more_taken b in omega (arith, e, c, d)
            ]

        ready : (a b n : ℕ) → a < length (with_server m u s).servers → b < length (with_server m u s).servers → (server (with_server m u s) a).doubt ≡ Some (Turns n) →
            ((b ≡ u) × (u < length m.servers) × (server (with_server m u s) b ≡ s)) ⊎ (server (with_server m u s) b ≡ server m b) → taken (server (with_server m u s) a) ≤ taken (server (with_server m u s) b)
        ready a b n la lb e k =
            let c = same_units in
            let lb' : b < length m.servers = omega (arith, lb, c) in
            let la' : a < length m.servers = omega (arith, la, c) in
            let d = more_taken b in
            elim (which a) [
              | inl w ↦
                  let f : taken (server (with_server m u s) a) ≡ taken s = ap (λ (x : Server). taken x) w.2 in
                  let g = may.ready b n w.1 lb' (ap (λ (x : Server). x.doubt) (sym w.2) ∙ e) in omega (arith, d, f, g)
              | inr q ↦
                  let f : taken (server (with_server m u s) a) ≡ taken (server m a) = ap (λ (x : Server). taken x) q in
                  let g = is.ready a b n la' lb' (ap (λ (x : Server). x.doubt) (sym q) ∙ e) in omega (arith, d, f, g)
            ]

-- WHAT SERVERS DO

module _ (m : CountingMachine) (is : IsAccount m) (u : ℕ) where
  abbrev here : Server
  here = server m u

  -- the same counts; what came is no more, and the doubt is the same
  same_counts : (s : Server) → s.admissions ≡ (server m u).admissions → s.sealed ≡ (server m u).sealed → ((v j : ℕ) → s.came v j ≡ true → j ≤ taken (server m v) + 1) → s.doubt ≡ (server m u).doubt → (s.health ≡ Works → (server m u).health ≡ Works) → May m u s
  same_counts s adm seals came doubt works =
      let a : length s.admissions ≡ length here.admissions = ap (λ (l : List Admission). length l) adm in
      let b : sum s.sealed ≡ sum here.sealed = ap sum seals in
      let c : taken s ≡ taken here = ap (λ (l : List ℕ). length l) seals in
      record {
        sealed = let i = is.sealed u in omega (arith, a, b, i);
        more = omega (arith, c);
        near = λ v lu lv. let i = is.near u v lu lv in omega (arith, c, i);
        came = came;
        certain = λ w. doubt ∙ is.certain u (works w);
        ready = λ v n lu lv e. let i = is.ready u v n lu lv (sym doubt ∙ e) in omega (arith, c, i);
        enough = λ n e. let i = is.enough u n (sym doubt ∙ e) in omega (arith, a, b, i);
      }

  pub same_may : May m u (server m u)
  same_may = same_counts (server m u) refl refl (is.came u) refl (λ w. w)

  -- a record that may stand: an admission, or a turn for which all is there
  abbrev MayStand : Record → Type 0
  MayStand (Admits a) = Unit {0}
  MayStand (Turns n) = (sum (server m u).sealed + n ≤ length (server m u).admissions) × ((v : ℕ) → u < length m.servers → v < length m.servers → taken (server m u) ≤ taken (server m v))

  -- a server with the same counts and what came, and no doubt
  module _ (s : Server) (adm : s.admissions ≡ (server m u).admissions) (seals : s.sealed ≡ (server m u).sealed) (came : (v j : ℕ) → s.came v j ≡ true → j ≤ taken (server m v) + 1) (doubt : s.doubt ≡ None) where
    a : length s.admissions ≡ length (server m u).admissions
    a = ap (λ (l : List Admission). length l) adm

    b : sum s.sealed ≡ sum (server m u).sealed
    b = ap sum seals

    c : taken s ≡ taken (server m u)
    c = ap (λ (l : List ℕ). length l) seals

    pub cleared_may : May m u s
    cleared_may = record {
      sealed = let i = is.sealed u in let p = a in let q = b in omega (arith, i, p, q);
      more = let q = c in omega (arith, q);
      near = λ v lu lv. let i = is.near u v lu lv in let q = c in omega (arith, q, i);
      came = came;
      certain = λ w. doubt;
      ready = λ v n lu lv e. absurd (none_some (Turns n) (sym doubt ∙ e));
      enough = λ n e. absurd (none_some (Turns n) (sym doubt ∙ e));
    }

    pub stands_may : (r : Record) → MayStand r → May m u (stand r s)
    unfolding stand
    stands_may (Admits x) k = record {
      sealed = let i = is.sealed u in let p = a in let q = b in let n = length-append s.admissions (x ∷ []) in omega (arith, i, p, q, n);
      more = let q = c in omega (arith, q);
      near = λ v lu lv. let i = is.near u v lu lv in let q = c in omega (arith, q, i);
      came = came;
      certain = λ w. doubt;
      ready = λ v n lu lv e. absurd (none_some (Turns n) (sym doubt ∙ e));
      enough = λ n e. absurd (none_some (Turns n) (sym doubt ∙ e));
    }
    stands_may (Turns x) k = record {
      sealed = let i = k.0 in let p = a in let q = b in let n = sum_by_push (λ (y : ℕ). y) s.sealed x in omega (arith, i, p, q, n);
      more = let q = c in let n = length-append s.sealed (x ∷ []) in omega (arith, q, n);
      near = λ v lu lv. let i = k.1 v lu lv in let q = c in let n = length-append s.sealed (x ∷ []) in omega (arith, q, n, i);
      came = λ v j h. came v j (later (nat_lt (taken s + 1) j) (s.came v j) h);
      certain = λ w. doubt;
      ready = λ v n lu lv e. absurd (none_some (Turns n) (sym doubt ∙ e));
      enough = λ n e. absurd (none_some (Turns n) (sym doubt ∙ e));
    }
      where
        later : (p q : Bool) → (p && q) ≡ true → q ≡ true
        later true q h = h
        later false q h = absurd (true≢false (sym h))

    -- with the record in doubt, where it doesn't work
    doubt_may : (r : Record) (o : Option Record) → (o ≡ None) ⊎ (o ≡ Some r) → (t : Server) → t.admissions ≡ s.admissions → t.sealed ≡ s.sealed → ((v j : ℕ) → t.came v j ≡ true → s.came v j ≡ true) → t.doubt ≡ o → (t.health ≡ Works → ⊥) → MayStand r → May m u t
    doubt_may r o which t ta ts tc td works k =
        let p : length t.admissions ≡ length (server m u).admissions = ap (λ (l : List Admission). length l) (ta ∙ adm) in
        let q : sum t.sealed ≡ sum (server m u).sealed = ap sum (ts ∙ seals) in
        let z : taken t ≡ taken (server m u) = ap (λ (l : List ℕ). length l) (ts ∙ seals) in
        record {
          sealed = let i = is.sealed u in omega (arith, i, p, q);
          more = omega (arith, z);
          near = λ v lu lv. let i = is.near u v lu lv in omega (arith, z, i);
          came = λ v j h. came v j (tc v j h);
          certain = λ w. absurd (works w);
          ready = λ v n lu lv e. let i = (turns r n (in_doubt n e) k).1 v lu lv in omega (arith, z, i);
          enough = λ n e. let i = (turns r n (in_doubt n e) k).0 in omega (arith, p, q, i);
        }
      where
        in_doubt : (n : ℕ) → t.doubt ≡ Some (Turns n) → r ≡ Turns n
        in_doubt n e = elim which [
          | inl w ↦ absurd (none_some (Turns n) (sym w ∙ sym td ∙ e))
          | inr w ↦ same (sym w ∙ sym td ∙ e)
        ]
          where
            same : Some r ≡ Some (Turns n) → r ≡ Turns n
            same q = cc

        turns : (r : Record) (n : ℕ) → r ≡ Turns n → MayStand r → MayStand (Turns n)
        turns r n e k = subst (λ (x : Record). MayStand x) e k

  -- a write, at a server that works
  pub written_may : (r : Record) → (server m u).health ≡ Works → MayStand r → May m u (written r (server m u)).1
  unfolding written
  written_may r works k = go (strokes 4 (server m u).fuse)
    where
      failed_works : Failed ≡ Works → ⊥
      failed_works q = cc

      down_works : IsDown ≡ Works → ⊥
      down_works q = cc

      nothing_came : (v j : ℕ) → nothing v j ≡ true → (server m u).came v j ≡ true
      nothing_came v j h = absurd (true≢false (sym h))

      cases : (n : ℕ) → (doubted n r ≡ None) ⊎ (doubted n r ≡ Some r)
      cases n = pick (nat_lt n 3)
        where
          pick : (b : Bool) → (cond b None (Some r) ≡ None) ⊎ (cond b None (Some r) ≡ Some r)
          pick true = inl refl
          pick false = inr refl

      go : (met : Met) → May m u (written_by r (server m u) met).1
      go (Done fuse) = stands_may (record (server m u) { fuse = fuse }) refl refl (is.came u) (is.certain u works) r k
      go (SetOff n arms.Fail) = doubt_may (server m u) refl refl (is.came u) (is.certain u works) r (doubted n r) (cases n) (broken arms.Fail (record (server m u) { doubt = doubted n r })) refl refl (λ v j h. h) refl failed_works k
      go (SetOff n (arms.Crash outcome)) = doubt_may (server m u) refl refl (is.came u) (is.certain u works) r (doubted n r) (cases n) (broken (arms.Crash outcome) (record (server m u) { doubt = doubted n r })) refl refl nothing_came refl down_works k

  works_of : (h : Health) → bar_at h ≡ None → h ≡ Works
  works_of Works e = refl
  works_of Failed e = absurd (none_some Rattle.wf_machine.specs.Bars.Reopen (sym e))
  works_of IsDown e = absurd (none_some Rattle.wf_machine.specs.Bars.Down (sym e))

  admit_may : (a : Admission) (bar : Option Bar) → bar_at (server m u).health ≡ bar → (known : Option (ℕ × Admission)) (may : Result (Unit {0}) OuterFault) → May m u (admit_by bar known may (server m u) a).1
  admit_may a (Some bar) e known may = same_may
  admit_may a None e (Some x) may = same_may
  admit_may a None e None (Err fault) = same_may
  admit_may a None e None (Ok t) = written_may (Admits a) (works_of (server m u).health e) tt

  -- who misses nothing has what all peers made
  all_came : missing m u ≡ [] → (v : ℕ) → v < length m.servers → taken (server m u) ≤ taken (server m v)
  all_came e v lv = go (v == u) refl
    where
      none_missing : (vs : List ℕ) → filter (λ v. not ((server m u).came v (taken (server m u) + 1))) vs ≡ [] → (x : ℕ) → Rattle.wf_model.proofs.Bools.Mem x vs → (server m u).came x (taken (server m u) + 1) ≡ true
      none_missing [] e x w = absurd w
      none_missing (y ∷ vs) e x w = by_came ((server m u).came y (taken (server m u) + 1)) refl e (λ q. none_missing vs q x)
        where
          by_came : (b : Bool) → (server m u).came y (taken (server m u) + 1) ≡ b → cond (not b) (y ∷ filter (λ v. not ((server m u).came v (taken (server m u) + 1))) vs) (filter (λ v. not ((server m u).came v (taken (server m u) + 1))) vs) ≡ [] →
              (filter (λ v. not ((server m u).came v (taken (server m u) + 1))) vs ≡ [] → Rattle.wf_model.proofs.Bools.Mem x vs → (server m u).came x (taken (server m u) + 1) ≡ true) → (server m u).came x (taken (server m u) + 1) ≡ true
          by_came true q k ih = elim w [ inl z ↦ ap (λ (i : ℕ). (server m u).came i (taken (server m u) + 1)) (sym z) ∙ q | inr z ↦ ih k z ]
          by_came false q k ih = cc

      go : (b : Bool) → (v == u) ≡ b → taken (server m u) ≤ taken (server m v)
      go true q = let z : taken (server m v) ≡ taken (server m u) = ap (λ (i : ℕ). taken (server m i)) (eqb-true v u q) in omega (arith, z)
      go false q =
          let w = Rattle.wf_semantics.proofs.Lists.mem_filter (λ v. not (v == u)) (all_units m) v (Rattle.wf_semantics.proofs.Lists.mem_range 0 (length m.servers) v (omega arith) (omega (arith, lv))) (ap not q) in
          let i = is.came u v (taken (server m u) + 1) (none_missing (peers m u) e v w) in omega (arith, i)

  turn_may : (bar : Option Bar) → bar_at (server m u).health ≡ bar → (vs : List ℕ) → missing m u ≡ vs → May m u (turn_by bar vs (server m u)).1
  turn_may (Some bar) e vs q = same_may
  turn_may None e (v ∷ vs) q = same_may
  turn_may None e [] q =
      written_may (next_turn (server m u)) (works_of (server m u).health e)
      (let i = is.sealed u in omega (arith, i), λ v lu lv. all_came q v lv)

  pub turned_may : May m u (turned m u).1
  unfolding turned
  turned_may = turn_may (bar_at (server m u).health) refl (missing m u) refl

  -- a record in doubt may stand
  doubt_stands : (r : Record) → (server m u).doubt ≡ Some r → MayStand r
  doubt_stands (Admits x) e = tt
  doubt_stands (Turns n) e = (is.enough u n e, λ v lu lv. is.ready u v n lu lv e)

  pub recovered_may : (stands : Bool) → May m u (recovered stands (server m u)).1
  unfolding recovered stand
  recovered_may stands = go (strokes 1 (server m u).fuse)
    where
      down_works : IsDown ≡ Works → ⊥
      down_works q = cc

      nothing_came : (v j : ℕ) → nothing v j ≡ true → j ≤ taken (server m v) + 1
      nothing_came v j h = absurd (true≢false (sym h))

      settles : (fuse : Option Fuse) (stands : Bool) (o : Option Record) → (server m u).doubt ≡ o → May m u (record (settled stands o (server m u)) { health = Works; came = nothing; fuse = fuse })
      settles fuse stands None e = cleared_may (record (server m u) { health = Works; came = nothing; fuse = fuse }) refl refl nothing_came e
      settles fuse false (Some r) e = cleared_may (record (server m u) { health = Works; came = nothing; fuse = fuse; doubt = None }) refl refl nothing_came refl
      settles fuse true (Some (Admits x)) e = stands_may (record (server m u) { health = Works; came = nothing; fuse = fuse; doubt = None }) refl refl nothing_came refl (Admits x) tt
      settles fuse true (Some (Turns n)) e = again n (stands_may (record (server m u) { health = Works; came = nothing; fuse = fuse; doubt = None }) refl refl nothing_came refl (Turns n) (doubt_stands (Turns n) e))
        where
          again : (n : ℕ) → May m u (stand (Turns n) (record (server m u) { health = Works; came = nothing; fuse = fuse; doubt = None })) → May m u (record (stand (Turns n) (record (server m u) { doubt = None })) { health = Works; came = nothing; fuse = fuse })
          again n may = record { sealed = may.sealed; more = may.more; near = may.near; came = nothing_came; certain = may.certain; ready = may.ready; enough = may.enough }

      go : (met : Met) → May m u (recovered_by stands (server m u) met).1
      go (Done fuse) = settles fuse stands (server m u).doubt refl
      go (SetOff n what) = same_counts (record (fallen (server m u)) { fuse = None }) refl refl nothing_came refl (λ w. absurd (down_works w))

-- MESSAGES

letter_steps : (u v k i : ℕ) (x : Message) → slice_get (letters u v k) i ≡ Some x → (x.sender ≡ u) × (x.step ≤ k + 1)
letter_steps u v zero zero x e = let same : record { sender = u; receiver = v; step = 1 } ≡ x = some_same e in (ap (λ (y : Message). y.sender) (sym same), let q : 1 ≡ x.step = ap (λ (y : Message). y.step) same in omega (arith, q))
  where
    some_same : {y : Message} → Some y ≡ Some x → y ≡ x
    some_same q = cc
letter_steps u v zero (suc i) x e = absurd (none_some x e)
letter_steps u v (suc k) zero x e = let same : record { sender = u; receiver = v; step = suc k } ≡ x = some_same e in (ap (λ (y : Message). y.sender) (sym same), let q : suc k ≡ x.step = ap (λ (y : Message). y.step) same in omega (arith, q))
  where
    some_same : {y : Message} → Some y ≡ Some x → y ≡ x
    some_same q = cc
letter_steps u v (suc k) (suc zero) x e = let same : record { sender = u; receiver = v; step = suc (suc k) } ≡ x = some_same e in (ap (λ (y : Message). y.sender) (sym same), let q : suc (suc k) ≡ x.step = ap (λ (y : Message). y.step) same in omega (arith, q))
  where
    some_same : {y : Message} → Some y ≡ Some x → y ≡ x
    some_same q = cc
letter_steps u v (suc k) (suc (suc i)) x e = absurd (none_some x e)

pub posted_kept : (m : CountingMachine) (u v : ℕ) → IsAccount m → IsAccount (posted m u v).after
posted_kept m u v is = record { sealed = is.sealed; near = is.near; sent = sent; came = is.came; certain = is.certain; ready = is.ready; enough = is.enough }
  where
    sent : (n : ℕ) (x : Message) → message_at (posted m u v).after n ≡ Some x → x.step ≤ taken (server m x.sender) + 1
    sent zero x e = absurd (none_some x e)
    sent (suc n) x e = elim (slice_append m.messages (letters u v (taken (server m u))) n x e) [
      | inl q ↦ is.sent (suc n) x q
      | inr w ↦
          let l = letter_steps u v (taken (server m u)) w.0 x w.1 in
          let q : taken (server m x.sender) ≡ taken (server m u) = ap (λ (i : ℕ). taken (server m i)) l.0 in
          let s = l.1 in omega (arith, q, s)
    ]

pub send_kept : (m : CountingMachine) (u v : ℕ) → IsAccount m → IsAccount (send m u v).after
unfolding send
send_kept m u v is = go (server m u).health
  where
    go : (h : Health) → IsAccount (send_by h m u v).after
    go Works = posted_kept m u v is
    go Failed = posted_kept m u v is
    go IsDown = is

abbrev received_as : CountingMachine → Message → Bool → Bool → Acted
received_as m x true same = record { reply = reply.Old; after = m }
received_as m x false true = record { reply = reply.Same; after = m }
received_as m x false false = record { reply = reply.Fresh; after = with_server m x.receiver (with_came x.sender x.step (server m x.receiver)) }

pub deliver_kept : (m : CountingMachine) (n : ℕ) → IsAccount m → IsAccount (deliver m n).after
unfolding deliver
deliver_kept m n is = go (message_at m n) refl
  where
    comes : (x : Message) → message_at m n ≡ Some x → IsAccount (with_server m x.receiver (with_came x.sender x.step (server m x.receiver)))
    comes x e =
        kept m x.receiver (with_came x.sender x.step (server m x.receiver)) is
        (same_counts m is x.receiver (with_came x.sender x.step (server m x.receiver)) refl refl (λ v j h.
        elim (Rattle.wf_model.proofs.Bools.or_cases ((v == x.sender) && (j == x.step)) ((server m x.receiver).came v j) h) [
          | inl q ↦
              let b = Rattle.wf_model.proofs.Bools.and_both (v == x.sender) (j == x.step) q in
              let i = is.sent n x e in
              let c : taken (server m v) ≡ taken (server m x.sender) = ap (λ (i : ℕ). taken (server m i)) (eqb-true v x.sender b.0) in
              let d = eqb-true j x.step b.1 in omega (arith, i, c, d)
          | inr q ↦ is.came x.receiver v j q
        ]) refl (λ w. w))

    receives : (x : Message) → message_at m n ≡ Some x → (b c : Bool) → IsAccount (received_as m x b c).after
    receives x e true k = is
    receives x e false true = is
    receives x e false false = comes x e

    as_received : (x : Message) (b : Bool) → nat_le x.step (taken (server m x.receiver)) ≡ b → (k : Bool) → (server m x.receiver).came x.sender x.step ≡ k → received_as m x b k ≡ received m x (server m x.receiver)
    as_received x true e k f = sym (rw e refl)
    as_received x false e true f = sym (rw e (rw f refl))
    as_received x false e false f = sym (rw e (rw f refl))

    by_health : (x : Message) → message_at m n ≡ Some x → (h : Health) → IsAccount (come_by h m x).after
    by_health x e Works = subst (λ (d : Acted). IsAccount d.after) (as_received x (nat_le x.step (taken (server m x.receiver))) refl ((server m x.receiver).came x.sender x.step) refl) (receives x e (nat_le x.step (taken (server m x.receiver))) ((server m x.receiver).came x.sender x.step))
    by_health x e Failed = subst (λ (d : Acted). IsAccount d.after) (as_received x (nat_le x.step (taken (server m x.receiver))) refl ((server m x.receiver).came x.sender x.step) refl) (receives x e (nat_le x.step (taken (server m x.receiver))) ((server m x.receiver).came x.sender x.step))
    by_health x e IsDown = is

    go : (o : Option Message) → message_at m n ≡ o → IsAccount (deliver_by m o).after
    go None e = is
    go (Some x) e = by_health x e (server m x.receiver).health

-- A ROUND

deliveries_kept : (ns : List ℕ) (m : CountingMachine) → IsAccount m → IsAccount (after_delivery m ns)
deliveries_kept [] m is = is
deliveries_kept (n ∷ ns) m is = deliveries_kept ns (deliver m n).after (deliver_kept m n is)

posts_kept : (vs : List ℕ) (m : CountingMachine) (u : ℕ) → IsAccount m → IsAccount (after_posts m u vs)
posts_kept [] m u is = is
posts_kept (v ∷ vs) m u is =
    posts_kept vs (after_exchange m u v) u (deliveries_kept (range_with_len (length m.messages + 1) (length (send m u v).after.messages - length m.messages)) (send m u v).after (send_kept m u v is))

exchanges_kept : (us : List ℕ) (m : CountingMachine) → IsAccount m → IsAccount (after_exchanges m us)
exchanges_kept [] m is = is
exchanges_kept (u ∷ us) m is = exchanges_kept us (after_posts m u (peers m u)) (posts_kept (peers m u) m u is)

pub turn_kept : (m : CountingMachine) (u : ℕ) → IsAccount m → IsAccount (after_turn m u)
turn_kept m u is = kept m u (turned m u).1 is (turned_may m is u)

turns_kept : (us : List ℕ) (m : CountingMachine) → IsAccount m → IsAccount (after_turns m us)
turns_kept [] m is = is
turns_kept (u ∷ us) m is = turns_kept us (after_turn m u) (turn_kept m u is)

-- EACH LINE

crash_may : (m : CountingMachine) → IsAccount m → (u : ℕ) (h : Health) → (server m u).health ≡ h → May m u (crash_by h (server m u)).1
crash_may m is u Works e = fallen_may m is u
  where
    fallen_may : (m : CountingMachine) → IsAccount m → (u : ℕ) → May m u (fallen (server m u))
    fallen_may m is u = same_counts m is u (fallen (server m u)) refl refl (λ v j h. absurd (true≢false (sym h))) refl (λ w. absurd (down_works w))
      where
        down_works : IsDown ≡ Works → ⊥
        down_works q = cc
crash_may m is u Failed e = same_counts m is u (fallen (server m u)) refl refl (λ v j h. absurd (true≢false (sym h))) refl (λ w. absurd (down_works w))
  where
    down_works : IsDown ≡ Works → ⊥
    down_works q = cc
crash_may m is u IsDown e = same_may m is u

pub act_keeps : ActKeeps
unfolding act admit round
act_keeps chart m stands (line.Admit u request outer) is =
    kept m u.0 (admit_by (bar_at (server m u.0).health) (asked request (server m u.0).admissions) (lets chart m u.0 outer) (server m u.0) (record { request = request; outer = outer })).1 is
    (admit_may m is u.0 (record { request = request; outer = outer }) (bar_at (server m u.0).health) refl (asked request (server m u.0).admissions) (lets chart m u.0 outer))
act_keeps chart m stands (line.Turn u) is = turn_kept m u.0 is
act_keeps chart m stands (line.Send u v) is = send_kept m u.0 v.0 is
act_keeps chart m stands (line.Deliver n) is = deliver_kept m n is
act_keeps chart m stands (line.Crash u outcome) is = kept m u.0 (crash_by (server m u.0).health (server m u.0)).1 is (crash_may m is u.0 (server m u.0).health refl)
act_keeps chart m stands (line.Arm u n what) is =
    kept m u.0 (record (server m u.0) { fuse = Some (record { left = n; what = what }) }) is (same_counts m is u.0 (record (server m u.0) { fuse = Some (record { left = n; what = what }) }) refl refl (is.came u.0) refl (λ w. w))
act_keeps chart m stands (line.Recover u) is = kept m u.0 (recovered stands (server m u.0)).1 is (recovered_may m is u.0 stands)
act_keeps chart m stands (line.Show u) is = is
act_keeps chart m stands (line.Items u) is = is
act_keeps chart m stands line.Round is = turns_kept (all_units (after_exchanges m (all_units m))) (after_exchanges m (all_units m)) (exchanges_kept (all_units m) m is)

-- A PLAY

pub new_at : (n u : ℕ) → unwrap_or (slice_get (Rattle.std.specs.Prelude.replicate n new_server) u) new_server ≡ new_server
new_at zero u = refl
new_at (suc n) zero = refl
new_at (suc n) (suc u) = new_at n u

pub first_account : (chart : Chart) → IsAccount (first_machine chart)
first_account chart = record {
  sealed = λ u. at (λ s. sum s.sealed ≤ length s.admissions) u (omega arith);
  near = λ u v lu lv. at (λ s. taken s ≤ taken (server (first_machine chart) v) + 1) u (omega arith);
  sent = λ n x e. absurd (no_message n x e);
  came = λ u v j. at (λ s. s.came v j ≡ true → j ≤ taken (server (first_machine chart) v) + 1) u (λ h. absurd (true≢false (sym h)));
  certain = λ u. at (λ s. s.health ≡ Works → s.doubt ≡ None) u (λ w. refl);
  ready = λ u v n lu lv. at (λ s. s.doubt ≡ Some (Turns n) → taken s ≤ taken (server (first_machine chart) v)) u (λ e. absurd (none_some (Turns n) e));
  enough = λ u n. at (λ s. s.doubt ≡ Some (Turns n) → sum s.sealed + n ≤ length s.admissions) u (λ e. absurd (none_some (Turns n) e));
}
  where
    at : (P : Server → Type 0) (u : ℕ) → P new_server → P (server (first_machine chart) u)
    at P u p = subst P (sym (new_at (length chart.units) u)) p

    no_message : (n : ℕ) (x : Message) → message_at (first_machine chart) n ≡ Some x → ⊥
    no_message zero x e = none_some x e
    no_message (suc n) x e = none_some x e

lines_keep : (chart : Chart) (bs : List Bool) (xs : List (ℕ × Line)) (m : CountingMachine) → IsAccount m → IsAccount (after_lines chart m bs xs)
lines_keep chart bs [] m is = is
lines_keep chart bs (x ∷ xs) m is = lines_keep chart (other_outcomes bs) xs (act chart m (first_outcome bs) x.1).after (act_keeps chart m (first_outcome bs) x.1 is)

pub account_holds : AccountHolds
account_holds chart bs xs = lines_keep chart bs xs (first_machine chart) (first_account chart)
