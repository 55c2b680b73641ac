-- What a server took in was sent to it.
use Rattle.std.proofs.Common.{◌≡◌, ℕ, zero, suc, ◌+◌, ◌-◌, ◌<◌, ◌==◌, ◌&&◌, ◌⊎◌, not, nat_le, nat_lt, cond, min, Bool, true, false, List, [], ◌∷◌, ◌++◌, filter, length, Option, Some, None, Result, Ok, Err, inl, inr, refl, sym, ap, ap₂, ◌∙◌, subst, arith, eqb-true, eq-eqb, true≢false}
use Rattle.std.specs.List.{range_with_len}
use Rattle.std.proofs.lemmas.List.{length-append}
use Rattle.std.proofs.lemmas.List.Folds.{list_any-append}
use Rattle.wf_model.specs.Limits.{max_sealed}
use Rattle.wf_model.specs.declared.outer.OuterFault.{OuterFault}
use Rattle.wf_model.specs.declared.chart.Chart.{Chart}
use Rattle.wf_disk.specs.declared.arm.Arm.TheVariants as arms
use Rattle.wf_model.proofs.Bools.{Mem, or_cases, or_left, and_both, and_true}
use Rattle.wf_semantics.proofs.Lists.{mem_filter, mem_range}
use Rattle.wf_semantics.proofs.Children.{lt_or_ge, at_any}
use Rattle.wf_machine.specs.declared.admission.Admission.{Admission}
use Rattle.wf_machine.specs.declared.line.Line.{Line}
use Rattle.wf_machine.specs.declared.line.Line.TheVariants as line
use Rattle.wf_machine.specs.Strokes.{Fuse, Met, Done, SetOff, strokes}
use Rattle.wf_machine.specs.Bars.{Bar, Reopen, Down}
use Rattle.wf_machine.specs.Server.{Health, Works, Failed, IsDown, Record, Admits, Turns, Server, nothing, taken, unsealed, stand, fallen, broken, doubted, written_by, written, next_turn, settled, recovered_by, recovered}
use Rattle.wf_machine.specs.Machine.{Message, CountingMachine, first_machine, all_units, server, with_server, message_at}
use Rattle.wf_machine.specs.Lines.{bar_at, admit_by, asked, lets, admit, peers, missing, turn_by, turned, after_turn, letters, send_by, posted, send, with_came, received, come_by, deliver_by, deliver, crash_by, after_delivery, after_exchange, after_posts, after_exchanges, after_turns, round, act}
use Rattle.wf_machine.specs.Runs.{first_outcome, other_outcomes, after_lines}
use Rattle.wf_machine.specs.Account.{IsAccount}
use Rattle.wf_machine.specs.Postings.{brings, was_sent, IsServed, IsPosted, ActPosts, PostedHolds}
use Rattle.wf_machine.proofs.Accounts.{at_server, same_units, send_kept, deliver_kept, turn_kept, act_keeps, first_account, new_at}

none_some : {A : Type 0} (x : A) → None ≡ Some x → ⊥
none_some x q = cc

down_works : IsDown ≡ Works → ⊥
down_works q = cc

pub works_of : (h : Health) → bar_at h ≡ None → h ≡ Works
works_of Works e = refl
works_of Failed e = absurd (none_some Reopen (sym e))
works_of IsDown e = absurd (none_some Down (sym e))

module _ (m : CountingMachine) (u : ℕ) where
  abbrev Served : Server → Type 0
  Served s = IsServed m.messages (length m.servers) u s

  -- one server is changed
  pub one_posted : (s : Server) → IsPosted m → Served s → IsPosted (with_server m u s)
  one_posted s is may v =
      subst (λ (n : ℕ). IsServed m.messages n v (server (with_server m u s) v)) (sym (same_units m u s))
      (at_server m u s (λ v x. IsServed m.messages (length m.servers) v x) may is v)

  module _ (is : IsAccount m) (post : IsPosted m) where
    -- the same counts and doubt, and no more came
    same : (s : Server) → s.sealed ≡ (server m u).sealed → s.doubt ≡ (server m u).doubt → ((v j : ℕ) → s.came v j ≡ true → was_sent m.messages v u j ≡ true) → Served s
    same s seals doubt came =
        let c : taken s ≡ taken (server m u) = ap (λ (l : List ℕ). length l) seals in
        record {
          came = came;
          steps = λ v j lu lv ne p le. (post u).steps v j lu lv ne p (omega (arith, c, le));
          doubt = λ v k lu lv ne e. ap (was_sent m.messages v u) (let q : taken s + 1 ≡ taken (server m u) + 1 = omega (arith, c) in q) ∙ (post u).doubt v k lu lv ne (sym doubt ∙ e);
        }

    abbrev Ready : Record → Type 0
    Ready (Admits a) = Unit {0}
    Ready (Turns k) = (v : ℕ) → u < length m.servers → v < length m.servers → (v == u) ≡ false → was_sent m.messages v u (taken (server m u) + 1) ≡ true

    module _ (s : Server) (seals : s.sealed ≡ (server m u).sealed) (doubt : s.doubt ≡ None) (came : (v j : ℕ) → s.came v j ≡ true → was_sent m.messages v u j ≡ true) where
      c : taken s ≡ taken (server m u)
      c = ap (λ (l : List ℕ). length l) seals

      cleared : Served s
      cleared = record {
        came = came;
        steps = λ v j lu lv ne p le. (post u).steps v j lu lv ne p (let q = c in omega (arith, q, le));
        doubt = λ v k lu lv ne e. absurd (none_some (Turns k) (sym doubt ∙ e));
      }

      stands : (r : Record) → Ready r → Served (stand r s)
      unfolding stand
      stands (Admits a) ready = record {
        came = came;
        steps = λ v j lu lv ne p le. (post u).steps v j lu lv ne p (let q = c in omega (arith, q, le));
        doubt = λ v k lu lv ne e. absurd (none_some (Turns k) (sym doubt ∙ e));
      }
      stands (Turns n) ready = record {
        came = λ v j h. came v j (later (nat_lt (taken s + 1) j) (s.came v j) h);
        steps = λ v j lu lv ne p le. elim (lt_or_ge (taken (server m u)) j) [
          | inl l ↦
              let a = length-append s.sealed (n ∷ []) in let q = c in
              let e : j ≡ taken (server m u) + 1 = omega (arith, a, q, le, l) in
              ap (was_sent m.messages v u) e ∙ ready v lu lv ne
          | inr g ↦ (post u).steps v j lu lv ne p g
        ];
        doubt = λ v k lu lv ne e. absurd (none_some (Turns k) (sym doubt ∙ e));
      }
        where
          later : (p q : Bool) → (p && q) ≡ true → q ≡ true
          later true q h = h
          later false q h = absurd (true≢false (sym h))

      doubts : (r : Record) (o : Option Record) → (o ≡ None) ⊎ (o ≡ Some r) → (t : Server) → t.sealed ≡ s.sealed → ((v j : ℕ) → t.came v j ≡ true → s.came v j ≡ true) → t.doubt ≡ o → Ready r → Served t
      doubts r o which t ts tc td ready =
          let z : taken t ≡ taken (server m u) = ap (λ (l : List ℕ). length l) (ts ∙ seals) in
          record {
            came = λ v j h. came v j (tc v j h);
            steps = λ v j lu lv ne p le. (post u).steps v j lu lv ne p (omega (arith, z, le));
            doubt = λ v k lu lv ne e. ap (was_sent m.messages v u) (let q : taken t + 1 ≡ taken (server m u) + 1 = omega (arith, z) in q) ∙ (turns r k (in_doubt k e) ready) v lu lv ne;
          }
        where
          same_some : {x y : Record} → Some x ≡ Some y → x ≡ y
          same_some q = cc

          in_doubt : (k : ℕ) → t.doubt ≡ Some (Turns k) → r ≡ Turns k
          in_doubt k e = elim which [
            | inl w ↦ absurd (none_some (Turns k) (sym w ∙ sym td ∙ e))
            | inr w ↦ same_some (sym w ∙ sym td ∙ e)
          ]

          turns : (r : Record) (k : ℕ) → r ≡ Turns k → Ready r → Ready (Turns k)
          turns r k e ready = subst (λ (x : Record). Ready x) e ready

    writes : (r : Record) → (server m u).health ≡ Works → Ready r → Served (written r (server m u)).1
    unfolding written
    writes r works ready = go (strokes 4 (server m u).fuse)
      where
        nothing_came : (v j : ℕ) → nothing v j ≡ true → (server m u).came v j ≡ true
        nothing_came v j h = absurd (true≢false (sym h))

        cases : (n : ℕ) → (doubted n r ≡ None) ⊎ (doubted n r ≡ Some r)
        cases n = pick (nat_lt n 3)
          where
            pick : (b : Bool) → (cond b None (Some r) ≡ None) ⊎ (cond b None (Some r) ≡ Some r)
            pick true = inl refl
            pick false = inr refl

        go : (met : Met) → Served (written_by r (server m u) met).1
        go (Done fuse) = stands (record (server m u) { fuse = fuse }) refl (is.certain u works) (post u).came r ready
        go (SetOff n arms.Fail) = doubts (server m u) refl (is.certain u works) (post u).came r (doubted n r) (cases n) (broken arms.Fail (record (server m u) { doubt = doubted n r })) refl (λ v j h. h) refl ready
        go (SetOff n (arms.Crash outcome)) = doubts (server m u) refl (is.certain u works) (post u).came r (doubted n r) (cases n) (broken (arms.Crash outcome) (record (server m u) { doubt = doubted n r })) refl nothing_came refl ready

    here : Served (server m u)
    here = post u

    admits : (a : Admission) (bar : Option Bar) → bar_at (server m u).health ≡ bar → (known : Option (ℕ × Admission)) (may : Result (Unit {0}) OuterFault) → Served (admit_by bar known may (server m u) a).1
    admits a (Some bar) e known may = here
    admits a None e (Some x) may = here
    admits a None e None (Err fault) = here
    admits a None e None (Ok t) = writes (Admits a) (works_of (server m u).health e) tt

    ready_turn : (k : ℕ) → missing m u ≡ [] → Ready (Turns k)
    ready_turn k e v lu lv ne = (post u).came v (taken (server m u) + 1) (all_came (peers m u) e v (mem_filter (λ v. not (v == u)) (all_units m) v (mem_range 0 (length m.servers) v (omega arith) (omega (arith, lv))) (ap not ne)))
      where
        all_came : (vs : List ℕ) → filter (λ v. not ((server m u).came v (taken (server m u) + 1))) vs ≡ [] → (x : ℕ) → Mem x vs → (server m u).came x (taken (server m u) + 1) ≡ true
        all_came [] e x w = absurd w
        all_came (y ∷ vs) e x w = by_came ((server m u).came y (taken (server m u) + 1)) refl e (λ q. all_came vs q x)
          where
            by_came : (b : Bool) → (server m u).came y (taken (server m u) + 1) ≡ b → cond (not b) (y ∷ filter (λ v. not ((server m u).came v (taken (server m u) + 1))) vs) (filter (λ v. not ((server m u).came v (taken (server m u) + 1))) vs) ≡ [] →
                (filter (λ v. not ((server m u).came v (taken (server m u) + 1))) vs ≡ [] → Mem x vs → (server m u).came x (taken (server m u) + 1) ≡ true) → (server m u).came x (taken (server m u) + 1) ≡ true
            by_came true q k ih = elim w [ inl z ↦ ap (λ (i : ℕ). (server m u).came i (taken (server m u) + 1)) (sym z) ∙ q | inr z ↦ ih k z ]
            by_came false q k ih = cc

    turns_by : (bar : Option Bar) → bar_at (server m u).health ≡ bar → (vs : List ℕ) → missing m u ≡ vs → Served (turn_by bar vs (server m u)).1
    turns_by (Some bar) e vs q = here
    turns_by None e (v ∷ vs) q = here
    turns_by None e [] q = writes (next_turn (server m u)) (works_of (server m u).health e) (ready_turn (min max_sealed (unsealed (server m u))) q)

    turn_served : Served (turned m u).1
    unfolding turned
    turn_served = turns_by (bar_at (server m u).health) refl (missing m u) refl

    doubt_ready : (r : Record) → (server m u).doubt ≡ Some r → Ready r
    doubt_ready (Admits a) e = tt
    doubt_ready (Turns k) e = λ v lu lv ne. (post u).doubt v k lu lv ne e

    recovers : (b : Bool) → Served (recovered b (server m u)).1
    unfolding recovered stand
    recovers b = go (strokes 1 (server m u).fuse)
      where
        no_came : (v j : ℕ) → nothing v j ≡ true → was_sent m.messages v u j ≡ true
        no_came v j h = absurd (true≢false (sym h))

        settles : (fuse : Option Fuse) (b : Bool) (o : Option Record) → (server m u).doubt ≡ o → Served (record (settled b o (server m u)) { health = Works; came = nothing; fuse = fuse })
        settles fuse b None e = same (record (server m u) { health = Works; came = nothing; fuse = fuse }) refl refl no_came
        settles fuse false (Some r) e = cleared (record (server m u) { health = Works; came = nothing; fuse = fuse; doubt = None }) refl refl no_came
        settles fuse true (Some (Admits a)) e = stands (record (server m u) { health = Works; came = nothing; fuse = fuse; doubt = None }) refl refl no_came (Admits a) tt
        settles fuse true (Some (Turns k)) e =
            let r = stands (record (server m u) { health = Works; came = nothing; fuse = fuse; doubt = None }) refl refl no_came (Turns k) (doubt_ready (Turns k) e) in
            record { came = no_came; steps = r.steps; doubt = r.doubt }

        go : (met : Met) → Served (recovered_by b (server m u) met).1
        go (Done fuse) = settles fuse b (server m u).doubt refl
        go (SetOff n what) = same (record (fallen (server m u)) { fuse = None }) refl refl no_came

    crashes : (h : Health) → Served (crash_by h (server m u)).1
    crashes Works = same (fallen (server m u)) refl refl (λ v j h. absurd (true≢false (sym h)))
    crashes Failed = same (fallen (server m u)) refl refl (λ v j h. absurd (true≢false (sym h)))
    crashes IsDown = here

-- MESSAGES

more_sent : (xs ys : List Message) (n u : ℕ) (s : Server) → IsServed xs n u s → IsServed (xs ++ ys) n u s
more_sent xs ys n u s is = record {
  came = λ v j h. more v j (is.came v j h);
  steps = λ v j lu lv ne p le. more v j (is.steps v j lu lv ne p le);
  doubt = λ v k lu lv ne e. more v (taken s + 1) (is.doubt v k lu lv ne e);
}
  where
    more : (v j : ℕ) → was_sent xs v u j ≡ true → was_sent (xs ++ ys) v u j ≡ true
    more v j h = list_any-append (brings v u j) xs ys ∙ or_left (was_sent xs v u j) (was_sent ys v u j) h

send_posted : (m : CountingMachine) (u v : ℕ) → IsPosted m → IsPosted (send m u v).after
unfolding send
send_posted m u v is = go (server m u).health
  where
    grown : IsPosted (posted m u v).after
    grown w = more_sent m.messages (letters u v (taken (server m u))) (length m.servers) w (server m w) (is w)

    go : (h : Health) → IsPosted (send_by h m u v).after
    go Works = grown
    go Failed = grown
    go IsDown = is

deliver_posted : (m : CountingMachine) (n : ℕ) → IsAccount m → IsPosted m → IsPosted (deliver m n).after
unfolding deliver
deliver_posted m n acc is = go (message_at m n) refl
  where
    found : (n : ℕ) (x : Message) → message_at m n ≡ Some x → was_sent m.messages x.sender x.receiver x.step ≡ true
    found zero x e = absurd (none_some x e)
    found (suc n) x e =
        at_any (brings x.sender x.receiver x.step) m.messages n x e
        (and_true (x.sender == x.sender) ((x.receiver == x.receiver) && (x.step == x.step)) (eq-eqb x.sender x.sender refl) (and_true (x.receiver == x.receiver) (x.step == x.step) (eq-eqb x.receiver x.receiver refl) (eq-eqb x.step x.step refl)))

    comes : (x : Message) → message_at m n ≡ Some x → IsPosted (with_server m x.receiver (with_came x.sender x.step (server m x.receiver)))
    comes x e =
        one_posted m x.receiver (with_came x.sender x.step (server m x.receiver)) is
        (same m x.receiver acc is (with_came x.sender x.step (server m x.receiver)) refl refl (λ v j h.
        elim (or_cases ((v == x.sender) && (j == x.step)) ((server m x.receiver).came v j) h) [
          | inl q ↦
              let b = and_both (v == x.sender) (j == x.step) q in
              ap₂ (λ (w i : ℕ). was_sent m.messages w x.receiver i) (eqb-true v x.sender b.0) (eqb-true j x.step b.1) ∙ found n x e
          | inr q ↦ (is x.receiver).came v j q
        ]))

    receives : (x : Message) → message_at m n ≡ Some x → (b : Bool) → nat_le x.step (taken (server m x.receiver)) ≡ b → (k : Bool) → (server m x.receiver).came x.sender x.step ≡ k → IsPosted (received m x (server m x.receiver)).after
    receives x q true e k f = rw e is
    receives x q false e true f = rw e (rw f is)
    receives x q false e false f = rw e (rw f (comes x q))

    by_health : (x : Message) → message_at m n ≡ Some x → (h : Health) → IsPosted (come_by h m x).after
    by_health x q Works = receives x q (nat_le x.step (taken (server m x.receiver))) refl ((server m x.receiver).came x.sender x.step) refl
    by_health x q Failed = receives x q (nat_le x.step (taken (server m x.receiver))) refl ((server m x.receiver).came x.sender x.step) refl
    by_health x q IsDown = is

    go : (o : Option Message) → message_at m n ≡ o → IsPosted (deliver_by m o).after
    go None e = is
    go (Some x) e = by_health x e (server m x.receiver).health

turn_posted : (m : CountingMachine) (u : ℕ) → IsAccount m → IsPosted m → IsPosted (after_turn m u)
turn_posted m u acc is = one_posted m u (turned m u).1 is (turn_served m u acc is)

-- A ROUND

-- what sends, deliveries and turns keep, a round keeps
module _ (Q : CountingMachine → Type 0) (sends : (m : CountingMachine) (u v : ℕ) → Q m → Q (send m u v).after) (delivers : (m : CountingMachine) (n : ℕ) → Q m → Q (deliver m n).after) where
  all_delivered : (ns : List ℕ) (m : CountingMachine) → Q m → Q (after_delivery m ns)
  all_delivered [] m q = q
  all_delivered (n ∷ ns) m q = all_delivered ns (deliver m n).after (delivers m n q)

  all_posted : (vs : List ℕ) (m : CountingMachine) (u : ℕ) → Q m → Q (after_posts m u vs)
  all_posted [] m u q = q
  all_posted (v ∷ vs) m u q = all_posted vs (after_exchange m u v) u (all_delivered (range_with_len (length m.messages + 1) (length (send m u v).after.messages - length m.messages)) (send m u v).after (sends m u v q))

  pub all_exchanged : (us : List ℕ) (m : CountingMachine) → Q m → Q (after_exchanges m us)
  all_exchanged [] m q = q
  all_exchanged (u ∷ us) m q = all_exchanged us (after_posts m u (peers m u)) (all_posted (peers m u) m u q)

  all_turned : ((m : CountingMachine) (u : ℕ) → Q m → Q (after_turn m u)) → (us : List ℕ) (m : CountingMachine) → Q m → Q (after_turns m us)
  all_turned turns [] m q = q
  all_turned turns (u ∷ us) m q = all_turned turns us (after_turn m u) (turns m u q)

  pub round_keeps : ((m : CountingMachine) (u : ℕ) → Q m → Q (after_turn m u)) → (m : CountingMachine) → Q m → Q (round m).after
  unfolding round
  round_keeps turns m q = all_turned turns (all_units (after_exchanges m (all_units m))) (after_exchanges m (all_units m)) (all_exchanged (all_units m) m q)

pub act_posts : ActPosts
unfolding act admit
act_posts chart m stands (line.Admit u request outer) acc is =
    one_posted m u.0 (admit_by (bar_at (server m u.0).health) (asked request (server m u.0).admissions) (lets chart m u.0 outer) (server m u.0) (record { request = request; outer = outer })).1 is
    (admits m u.0 acc is (record { request = request; outer = outer }) (bar_at (server m u.0).health) refl (asked request (server m u.0).admissions) (lets chart m u.0 outer))
act_posts chart m stands (line.Turn u) acc is = turn_posted m u.0 acc is
act_posts chart m stands (line.Send u v) acc is = send_posted m u.0 v.0 is
act_posts chart m stands (line.Deliver n) acc is = deliver_posted m n acc is
act_posts chart m stands (line.Crash u outcome) acc is = one_posted m u.0 (crash_by (server m u.0).health (server m u.0)).1 is (crashes m u.0 acc is (server m u.0).health)
act_posts chart m stands (line.Arm u n what) acc is =
    one_posted m u.0 (record (server m u.0) { fuse = Some (record { left = n; what = what }) }) is (same m u.0 acc is (record (server m u.0) { fuse = Some (record { left = n; what = what }) }) refl refl (is u.0).came)
act_posts chart m stands (line.Recover u) acc is = one_posted m u.0 (recovered stands (server m u.0)).1 is (recovers m u.0 acc is stands)
act_posts chart m stands (line.Show u) acc is = is
act_posts chart m stands (line.Items u) acc is = is
act_posts chart m stands line.Round acc is =
    (round_keeps (λ m. IsAccount m × IsPosted m) (λ m u v q. (send_kept m u v q.0, send_posted m u v q.1)) (λ m n q. (deliver_kept m n q.0, deliver_posted m n q.0 q.1)) (λ m u q. (turn_kept m u q.0, turn_posted m u q.0 q.1)) m (acc, is)).1

first_posted : (chart : Chart) → IsPosted (first_machine chart)
first_posted chart u = subst (λ (s : Server). IsServed [] (length (first_machine chart).servers) u s) (sym (new_at (length chart.units) u)) (record {
  came = λ v j h. absurd (true≢false (sym h));
  steps = λ v j lu lv ne p le. absurd (omega (arith, p, le));
  doubt = λ v k lu lv ne e. absurd (none_some (Turns k) e);
})

lines_post : (chart : Chart) (bs : List Bool) (xs : List (ℕ × Line)) (m : CountingMachine) → IsAccount m → IsPosted m → IsPosted (after_lines chart m bs xs)
lines_post chart bs [] m acc is = is
lines_post chart bs (x ∷ xs) m acc is = lines_post chart (other_outcomes bs) xs (act chart m (first_outcome bs) x.1).after (act_keeps chart m (first_outcome bs) x.1 acc) (act_posts chart m (first_outcome bs) x.1 acc is)

pub posted_holds : PostedHolds
posted_holds chart bs xs = lines_post chart bs xs (first_machine chart) (first_account chart) (first_posted chart)
