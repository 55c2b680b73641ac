-- A machine's servers are those of a world with histories and updates.
use Rattle.std.proofs.Common.{◌≡◌, ℕ, zero, suc, ◌+◌, ◌-◌, ◌<◌, ◌≤◌, ◌==◌, ◌&&◌, ◌||◌, not, nat_le, nat_lt, cond, min, Bool, true, false, List, [], ◌∷◌, ◌++◌, map, filter, sum, length, Option, Some, None, Result, Ok, Err, IsSome, is_ok, is_some, unwrap_or, slice_get, inl, inr, refl, sym, ap, ap₂, ◌∙◌, subst, arith, eqb-true, eq-eqb, true≢false, ltb-true}
use Rattle.std.specs.Prelude.{option_map}
use Rattle.std.specs.Option.{option_and_then}
use Rattle.std.specs.List.{range_with_len, slice_set, list_all}
use Rattle.std.proofs.lemmas.List.{map-append, length-map}
use Rattle.std.proofs.lemmas.Option.{slice_get-map, slice_get_within, get_or_from_slice_get}
use Rattle.wf_model.specs.Limits.{max_sealed}
use Rattle.wf_model.specs.declared.outer.OuterFault.{OuterFault}
use Rattle.wf_model.specs.declared.chart.Chart.{Chart}
use Rattle.wf_model.specs.declared.update.Update.{Update}
use Rattle.wf_model.specs.Accepted.{IsAccepted, is_unit}
use Rattle.wf_disk.specs.declared.arm.Arm.TheVariants as arms
use Rattle.wf_model.proofs.Bools.{Mem, and_both}
use Rattle.wf_semantics.proofs.Lists.{range_mem}
use Rattle.wf_machine.specs.declared.admission.Admission as of
use Rattle.wf_machine.specs.declared.line.Line.{Line}
use Rattle.wf_machine.specs.declared.line.Line.TheVariants as line
use Rattle.wf_machine.specs.Strokes.{Fuse, Met, Done, SetOff, strokes}
use Rattle.wf_machine.specs.Bars.{Bar}
use Rattle.wf_machine.specs.Server.{Health, Works, Failed, IsDown, Server, Record as Counted, Admits as CountedAdmits, Turns as CountedTurns, nothing, new_server, taken as steps_taken, unsealed as left, stand, fallen, broken, written_by, written, next_turn, settled as settled_by, recovered_by, recovered}
use Rattle.wf_machine.specs.Machine.{CountingMachine, Message as Count, first_machine, all_units, server, with_server, message_at}
use Rattle.wf_machine.specs.Fits.{is_line}
use Rattle.wf_machine.specs.Lines.{bar_at, admit_by, asked, lets, admit, peers as others, missing, turn_by, turned as turned_by, after_turn, letters, send_by, posted, send, with_came, received, come_by, deliver_by, deliver, crash_by, after_delivery, after_exchange, after_posts, after_exchanges, after_turns, round, act}
use Rattle.wf_machine.specs.Runs.{first_outcome, other_outcomes, after_lines}
use Rattle.wf_machine.specs.Account.{IsAccount}
use Rattle.wf_machine.proofs.Accounts.{which, same_units, act_keeps, first_account, new_at, deliver_kept, turn_kept, posted_kept}
use Rattle.wf_machine.proofs.Posting.{works_of}
use Rattle.wf_histories.specs.Histories.{Admission, History, seals, taken}
use Rattle.wf_histories.specs.Agreement.{peers}
use Rattle.wf_histories.specs.Laws.{AreLean}
use Rattle.wf_worlds.specs.Growing.{GoesOn, unsealed}
use Rattle.wf_bridge.specs.Bridging.{in_history, CountsOf}
use Rattle.wf_worlds.specs.Worlds.{Message, Record, Admits, Turns, World, Sound, MayStand, IsMade, with_unit, stood, gather, letter, with_message, delivered, settled, first_world}
use Rattle.wf_bridge.specs.Simulated.{SameRecord, SameDoubt, IsUnitOf, counted, IsWorldOf, LineHasWorld, FirstHasWorld, PlayHasWorld}
use Rattle.wf_worlds.proofs.GoesOn.{goes_on_same}
use Rattle.wf_worlds.proofs.Growing.{turn_seals}
use Rattle.wf_bridge.proofs.Bridging.{lets_same}
use Rattle.wf_worlds.proofs.Sounds.{at_same, stood_on, turn_may, sound_doubt, sound_send, sound_deliver, sound_settle, sound_stands, first_sound, sound_is_lean}

set_there : {A : Type 0} (xs : List A) (u : ℕ) (x d : A) → u < length xs → unwrap_or (slice_get (slice_set xs u x) u) d ≡ x
set_there [] u x d lt = absurd (omega (arith, lt))
set_there (y ∷ ys) zero x d lt = refl
set_there (y ∷ ys) (suc u) x d lt = set_there ys u x d (omega (arith, lt))

no_record : {A : Type 0} (x : A) → None ≡ Some x → ⊥
no_record x q = cc

-- what all of them give
gather_some : (f : ℕ → Option Update) (vs : List ℕ) → ((v : ℕ) → Mem v vs → IsSome (f v)) → (ups : List Update) × (gather f vs ≡ Some ups)
gather_some f [] h = ([], refl)
gather_some f (v ∷ vs) h = go (f v) (h v (inl refl)) (gather_some f vs (λ x m. h x (inr m)))
  where
    go : (o : Option Update) → IsSome o → (ups : List Update) × (gather f vs ≡ Some ups) → (ups : List Update) × (option_and_then (λ up. option_map (λ us. up ∷ us) (gather f vs)) o ≡ Some ups)
    go None s w = absurd (true≢false (sym s))
    go (Some up) s w = (up ∷ w.0, ap (option_map (λ (us : List Update). up ∷ us)) w.1)

none_of : (h : History) (c : Option Counted) (d : Option Record) → SameDoubt h c d → c ≡ None → d ≡ None
none_of h None None s e = refl
none_of h None (Some r) s e = absurd s
none_of h (Some c) d s e = absurd (no_record c (sym e))

module _ (chart : Chart) (ok : IsAccepted chart) where
  abbrev n : ℕ
  n = length chart.units

  abbrev Goes : World → CountingMachine → Type 0
  Goes w m = (v : World) × IsWorldOf chart m v × ((u : ℕ) → GoesOn (w.hist u) (v.hist u))

  module _ (m : CountingMachine) (w : World) (is : IsWorldOf chart m w) where
    pub counts : CountsOf m (length chart.units) w.hist
    counts = record { units = is.units; admissions = λ u lt. (is.each u lt).admissions; sealed = λ u lt. (is.each u lt).sealed }

    lean_here : AreLean chart w.hist
    lean_here = sound_is_lean chart w ok is.sound

    module _ (u : ℕ) (s : Server) (next : World) (unit : u < n → IsUnitOf s (next.hist u) (next.doubt u) (next.held u))
        (hist : (v : ℕ) → (v == u) ≡ false → next.hist v ≡ w.hist v) (doubt : (v : ℕ) → (v == u) ≡ false → next.doubt v ≡ w.doubt v) (held : (v : ℕ) → (v == u) ≡ false → next.held v ≡ w.held v)
        (same : next.messages ≡ w.messages) (account : IsAccount (with_server m u s)) (sound : Sound chart next) where
      -- one server is changed
      pub changed : IsWorldOf chart (with_server m u s) next
      changed = record { units = same_units m u s ∙ is.units; each = λ v lv. at v lv (v == u) refl; messages = ap (map counted) same ∙ is.messages; account = account; sound = sound }
        where
          there : u < n → server (with_server m u s) u ≡ s
          there lt = set_there m.servers u s new_server (let e = is.units in omega (arith, lt, e))

          other : (v : ℕ) → (v == u) ≡ false → server (with_server m u s) v ≡ server m v
          other v q = elim (which m u s v) [
            | inl w ↦ absurd (true≢false (sym (eq-eqb v u w.0) ∙ q))
            | inr e ↦ e
          ]

          at : (v : ℕ) → v < n → (b : Bool) → (v == u) ≡ b → IsUnitOf (server (with_server m u s) v) (next.hist v) (next.doubt v) (next.held v)
          at v lv true q =
              subst (λ (i : ℕ). IsUnitOf (server (with_server m u s) i) (next.hist i) (next.doubt i) (next.held i)) (sym (eqb-true v u q))
              (subst (λ (x : Server). IsUnitOf x (next.hist u) (next.doubt u) (next.held u)) (sym (there (let e = eqb-true v u q in omega (arith, lv, e)))) (unit (let e = eqb-true v u q in omega (arith, lv, e))))
          at v lv false q =
              subst (λ (x : Server). IsUnitOf x (next.hist v) (next.doubt v) (next.held v)) (sym (other v q))
              (subst (λ (x : History). IsUnitOf (server m v) x (next.doubt v) (next.held v)) (sym (hist v q))
              (subst (λ (x : Option Record). IsUnitOf (server m v) (w.hist v) x (next.held v)) (sym (doubt v q))
              (subst (λ (x : ℕ → ℕ → Option Update). IsUnitOf (server m v) (w.hist v) (w.doubt v) x) (sym (held v q)) (is.each v lv))))

    -- the same counts, doubt and world
    stays : (u : ℕ) → u < n → (s : Server) → s.admissions ≡ (server m u).admissions → s.sealed ≡ (server m u).sealed → s.doubt ≡ (server m u).doubt → ((v j : ℕ) → s.came v j ≡ true → (server m u).came v j ≡ true) → IsAccount (with_server m u s) → Goes w (with_server m u s)
    stays u lt s a b d c account =
        let e = is.each u lt in (
          w,
          changed u s w (λ l. record { admissions = e.admissions ∙ ap (map in_history) (sym a); sealed = e.sealed ∙ sym b; came = λ v j h. e.came v j (c v j h); doubtful = subst (λ (o : Option Counted). SameDoubt (w.hist u) o (w.doubt u)) (sym d) e.doubtful })
              (λ v q. refl) (λ v q. refl) (λ v q. refl) refl account is.sound,
          λ v. goes_on_same (w.hist v),
        )

    with_other : {A : Type 0} (f : ℕ → A) (u v : ℕ) (x : A) → (v == u) ≡ false → with_unit f u x v ≡ f v
    with_other {A} f u v x q = ap (λ (b : Bool). cond b x (f v)) q

    -- a record stands
    module _ (u : ℕ) (lt : u < n) (c : Counted) (r : Record) (same : SameRecord (w.hist u) c r) where
      stood_unit : (s : Server) → s.admissions ≡ (server m u).admissions → s.sealed ≡ (server m u).sealed → s.doubt ≡ None → ((v j : ℕ) → s.came v j ≡ true → IsSome (w.held u v j)) → IsUnitOf (stand c s) (stood r (w.hist u)) None (w.held u)
      unfolding stand
      stood_unit s a b d came = go c r same
        where
          e : IsUnitOf (server m u) (w.hist u) (w.doubt u) (w.held u)
          e = is.each u lt

          none : (h : History) → SameDoubt h s.doubt None
          none h = subst (λ (o : Option Counted). SameDoubt h o None) (sym d) tt

          later : (p q : Bool) → (p && q) ≡ true → q ≡ true
          later true q h = h
          later false q h = absurd (true≢false (sym h))

          go : (c : Counted) (r : Record) → SameRecord (w.hist u) c r → IsUnitOf (stand c s) (stood r (w.hist u)) None (w.held u)
          go (CountedAdmits x) (Admits y) q = record {
            admissions = ap₂ (λ (xs : List Admission) (z : Admission). xs ++ z ∷ []) ((is.each u lt).admissions ∙ ap (map in_history) (sym a)) (sym q) ∙ sym (map-append in_history s.admissions (x ∷ []));
            sealed = (is.each u lt).sealed ∙ sym b;
            came = came;
            doubtful = none (stood (Admits y) (w.hist u));
          }
          go (CountedAdmits x) (Turns ups) q = absurd q
          go (CountedTurns k) (Admits y) q = absurd q
          go (CountedTurns k) (Turns ups) q = record {
            admissions = (is.each u lt).admissions ∙ ap (map in_history) (sym a);
            sealed = turn_seals (w.hist u) ups ∙ ap₂ (λ (xs : List ℕ) (z : ℕ). xs ++ z ∷ []) ((is.each u lt).sealed ∙ sym b) (sym q);
            came = λ v j h. came v j (later (nat_lt (steps_taken s + 1) j) (s.came v j) h);
            doubtful = none (stood (Turns ups) (w.hist u));
          }

      writes : (server m u).health ≡ Works → MayStand chart w.hist u r → IsAccount (with_server m u (written c (server m u)).1) → Goes w (with_server m u (written c (server m u)).1)
      unfolding written
      writes works may account = go (strokes 4 (server m u).fuse) account
        where
          s : Server
          s = server m u

          no_doubt : w.doubt u ≡ None
          no_doubt = none_of (w.hist u) (server m u).doubt (w.doubt u) (is.each u lt).doubtful (is.account.certain u works)

          in_doubt : (t : Server) → t.admissions ≡ (server m u).admissions → t.sealed ≡ (server m u).sealed → t.doubt ≡ Some c → ((v j : ℕ) → t.came v j ≡ true → (server m u).came v j ≡ true) → IsAccount (with_server m u t) → Goes w (with_server m u t)
          in_doubt t a b d came account =
              let e = is.each u lt in
              let next : World = record w { doubt = with_unit w.doubt u (Some r) } in (
                next,
                changed u t next
                    (λ l. record {
                      admissions = e.admissions ∙ ap (map in_history) (sym a);
                      sealed = e.sealed ∙ sym b;
                      came = λ v j h. e.came v j (came v j h);
                      doubtful = subst (λ (o : Option Record). SameDoubt (w.hist u) t.doubt o) (sym (at_same w.doubt u (Some r))) (subst (λ (o : Option Counted). SameDoubt (w.hist u) o (Some r)) (sym d) same);
                    })
                    (λ v q. refl) (λ v q. with_other w.doubt u v (Some r) q) (λ v q. refl) refl account
                    (sound_doubt chart ok w u (Some r) lt is.sound (λ x q. subst (MayStand chart w.hist u) (some_same x q) may)),
                λ v. goes_on_same (w.hist v),
              )
            where
              some_same : (x : Record) → Some r ≡ Some x → r ≡ x
              some_same x q = cc

          -- the arm went off
          off : (t : Option Counted → Server) → ((o : Option Counted) → (t o).admissions ≡ (server m u).admissions) → ((o : Option Counted) → (t o).sealed ≡ (server m u).sealed) → ((o : Option Counted) → (t o).doubt ≡ o) → ((o : Option Counted) (v j : ℕ) → (t o).came v j ≡ true → (server m u).came v j ≡ true) →
              (b : Bool) → IsAccount (with_server m u (t (cond b None (Some c)))) → Goes w (with_server m u (t (cond b None (Some c))))
          off t a b d came true account = stays u lt (t None) (a None) (b None) (d None ∙ sym (is.account.certain u works)) (came None) account
          off t a b d came false account = in_doubt (t (Some c)) (a (Some c)) (b (Some c)) (d (Some c)) (came (Some c)) account

          goes_on : (w : World) (u : ℕ) (r : Record) (v : ℕ) → GoesOn (w.hist v) (with_unit w.hist u (stood r (w.hist u)) v)
          goes_on w u r = Rattle.wf_worlds.proofs.Sounds.at_each (λ v h. GoesOn (w.hist v) h) w.hist u (stood r (w.hist u)) (stood_on chart r (w.hist u)) (λ v. goes_on_same (w.hist v))

          go : (met : Met) → IsAccount (with_server m u (written_by c (server m u) met).1) → Goes w (with_server m u (written_by c (server m u) met).1)
          go (Done fuse) account =
              let next : World = record w { hist = with_unit w.hist u (stood r (w.hist u)) } in (
                next,
                changed u (stand c (record (server m u) { fuse = fuse })) next
                    (λ l. subst (λ (h : History). IsUnitOf (stand c (record (server m u) { fuse = fuse })) h (w.doubt u) (w.held u)) (sym (at_same w.hist u (stood r (w.hist u))))
                    (subst (λ (o : Option Record). IsUnitOf (stand c (record (server m u) { fuse = fuse })) (stood r (w.hist u)) o (w.held u)) (sym no_doubt)
                    (stood_unit (record (server m u) { fuse = fuse }) refl refl (is.account.certain u works) (is.each u lt).came)))
                    (λ v q. with_other w.hist u v (stood r (w.hist u)) q) (λ v q. refl) (λ v q. refl) refl account
                    (sound_stands chart ok w u r lt is.sound no_doubt may),
                goes_on w u r,
              )
          go (SetOff k arms.Fail) account = off (λ o. broken arms.Fail (record (server m u) { doubt = o })) (λ o. refl) (λ o. refl) (λ o. refl) (λ o v j h. h) (nat_lt k 3) account
          go (SetOff k (arms.Crash outcome)) account = off (λ o. broken (arms.Crash outcome) (record (server m u) { doubt = o })) (λ o. refl) (λ o. refl) (λ o. refl) (λ o v j h. absurd (true≢false (sym h))) (nat_lt k 3) account

    -- ADMIT AND TURN

    admits : (u : ℕ) → u < n → (a : of.Admission) (bar : Option Bar) → bar_at (server m u).health ≡ bar → (known : Option (ℕ × of.Admission)) (may : Result (Unit {0}) OuterFault) → lets chart m u a.outer ≡ may →
        IsAccount (with_server m u (admit_by bar known may (server m u) a).1) → Goes w (with_server m u (admit_by bar known may (server m u) a).1)
    admits u lt a (Some bar) e known may l account = stays u lt (server m u) refl refl refl (λ v j h. h) account
    admits u lt a None e (Some x) may l account = stays u lt (server m u) refl refl refl (λ v j h. h) account
    admits u lt a None e None (Err fault) l account = stays u lt (server m u) refl refl refl (λ v j h. h) account
    admits u lt a None e None (Ok t) l account =
        writes u lt (CountedAdmits a) (Admits (in_history a)) refl (works_of (server m u).health e)
        (ap is_ok (sym (lets_same chart m w.hist u a.outer lean_here counts lt) ∙ l)) account

    turns_by : (u : ℕ) → u < n → (bar : Option Bar) → bar_at (server m u).health ≡ bar → (vs : List ℕ) → missing m u ≡ vs →
        IsAccount (with_server m u (turn_by bar vs (server m u)).1) → Goes w (with_server m u (turn_by bar vs (server m u)).1)
    turns_by u lt (Some bar) e vs q account = stays u lt (server m u) refl refl refl (λ v j h. h) account
    turns_by u lt None e (v ∷ vs) q account = stays u lt (server m u) refl refl refl (λ v j h. h) account
    turns_by u lt None e [] q account =
        writes u lt (next_turn (server m u)) (Turns ups.0) seals_same (works_of (server m u).health e) (turn_may chart ok w u ups.0 lt is.sound ups.1) account
      where
        i : IsUnitOf (server m u) (w.hist u) (w.doubt u) (w.held u)
        i = is.each u lt

        same_taken : steps_taken (server m u) ≡ taken (w.hist u)
        same_taken = ap (λ (l : List ℕ). length l) (sym (is.each u lt).sealed)

        seals_same : min max_sealed (left (server m u)) ≡ min max_sealed (unsealed (w.hist u))
        seals_same =
            let a : length (w.hist u).admissions ≡ length (server m u).admissions = ap (λ (l : List Admission). length l) (is.each u lt).admissions ∙ length-map (server m u).admissions in_history in
            let b : sum (seals (w.hist u)) ≡ sum (server m u).sealed = ap sum (is.each u lt).sealed in
            ap₂ (λ (p q : ℕ). min max_sealed (p - q)) (sym a) (sym b)

        all_came : (vs : List ℕ) → filter (λ v. not ((server m u).came v (steps_taken (server m u) + 1))) vs ≡ [] → (x : ℕ) → Mem x vs → (server m u).came x (steps_taken (server m u) + 1) ≡ true
        all_came [] e x w = absurd w
        all_came (y ∷ vs) e x w = by_came ((server m u).came y (steps_taken (server m u) + 1)) refl e (λ q. all_came vs q x)
          where
            by_came : (b : Bool) → (server m u).came y (steps_taken (server m u) + 1) ≡ b → cond (not b) (y ∷ filter (λ v. not ((server m u).came v (steps_taken (server m u) + 1))) vs) (filter (λ v. not ((server m u).came v (steps_taken (server m u) + 1))) vs) ≡ [] →
                (filter (λ v. not ((server m u).came v (steps_taken (server m u) + 1))) vs ≡ [] → Mem x vs → (server m u).came x (steps_taken (server m u) + 1) ≡ true) → (server m u).came x (steps_taken (server m u) + 1) ≡ true
            by_came true q k ih = elim w [ inl z ↦ ap (λ (i : ℕ). (server m u).came i (steps_taken (server m u) + 1)) (sym z) ∙ q | inr z ↦ ih k z ]
            by_came false q k ih = cc

        peers_same : others m u ≡ peers n u
        peers_same = ap (λ (k : ℕ). filter (λ v. not (v == u)) (range_with_len 0 k)) is.units

        ups : (ups : List Update) × (gather (λ v. w.held u v (suc (taken (w.hist u)))) (peers n u) ≡ Some ups)
        ups = gather_some (λ v. w.held u v (suc (taken (w.hist u)))) (peers n u) (λ v mem.
            let c = all_came (others m u) q v (subst (λ (l : List ℕ). Mem v l) (sym peers_same) mem) in
            subst (λ (j : ℕ). IsSome (w.held u v j)) (let z : steps_taken (server m u) + 1 ≡ suc (taken (w.hist u)) = omega (arith, same_taken) in z) ((is.each u lt).came v (steps_taken (server m u) + 1) c))

    pub turn_goes : (u : ℕ) → u < n → Goes w (after_turn m u)
    unfolding turned_by
    turn_goes u lt = turns_by u lt (bar_at (server m u).health) refl (missing m u) refl (turn_kept m u is.account)

    -- MESSAGES

    one_message : (u v j : ℕ) → u < n → j ≤ taken (w.hist u) + 1 → (k : CountingMachine) → k.servers ≡ m.servers → k.messages ≡ m.messages ++ record { sender = u; receiver = v; step = j } ∷ [] → IsAccount k → IsWorldOf chart k (with_message chart w u v j)
    one_message u v j lt le k ss ms account = record {
      units = ap (λ (l : List Server). length l) ss ∙ is.units;
      each = λ x lx. subst (λ (l : List Server). IsUnitOf (unwrap_or (slice_get l x) new_server) (w.hist x) (w.doubt x) (w.held x)) (sym ss) (is.each x lx);
      messages = map-append counted w.messages (record { sender = u; receiver = v; step = j; update = letter chart w.hist u v j } ∷ []) ∙ ap (λ (l : List Count). l ++ record { sender = u; receiver = v; step = j } ∷ []) is.messages ∙ sym ms;
      account = account;
      sound = sound_send chart ok w u v j lt le is.sound;
    }

    send_goes : (u v : ℕ) → u < n → Goes w (send m u v).after
    unfolding send
    send_goes u v lt = go (server m u).health
      where
        append_two : {A : Type 0} (xs : List A) (x y : A) → (xs ++ x ∷ []) ++ y ∷ [] ≡ xs ++ (x ∷ (y ∷ []))
        append_two [] x y = refl
        append_two {A} (z ∷ xs) x y = ap (λ (l : List A). z ∷ l) (append_two xs x y)

        kept : IsAccount (posted m u v).after
        kept = posted_kept m u v is.account

        posts : (k : ℕ) → steps_taken (server m u) ≡ k → Goes w (record m { messages = m.messages ++ letters u v k })
        posts zero e = (
          with_message chart w u v 1,
          one_message u v 1 lt (omega arith) (record m { messages = m.messages ++ letters u v 0 }) refl refl (subst (λ (k : ℕ). IsAccount (record m { messages = m.messages ++ letters u v k })) e kept),
          λ x. goes_on_same (w.hist x),
        )
        posts (suc k) e =
            let t : steps_taken (server m u) ≡ taken (w.hist u) = ap (λ (l : List ℕ). length l) (sym (is.each u lt).sealed) in
            let one : World = with_message chart w u v (suc k) in (
              with_message chart one u v (suc (suc k)),
              record {
                units = is.units;
                each = is.each;
                messages =
                    map-append counted one.messages (record { sender = u; receiver = v; step = suc (suc k); update = letter chart w.hist u v (suc (suc k)) } ∷ [])
                    ∙ ap (λ (l : List Count). l ++ record { sender = u; receiver = v; step = suc (suc k) } ∷ []) (map-append counted w.messages (record { sender = u; receiver = v; step = suc k; update = letter chart w.hist u v (suc k) } ∷ []) ∙ ap (λ (l : List Count). l ++ record { sender = u; receiver = v; step = suc k } ∷ []) is.messages)
                    ∙ append_two m.messages (record { sender = u; receiver = v; step = suc k }) (record { sender = u; receiver = v; step = suc (suc k) });
                account = subst (λ (k : ℕ). IsAccount (record m { messages = m.messages ++ letters u v k })) e kept;
                sound = sound_send chart ok one u v (suc (suc k)) lt (omega (arith, t, e)) (sound_send chart ok w u v (suc k) lt (omega (arith, t, e)) is.sound);
              },
              λ x. goes_on_same (w.hist x),
            )

        go : (h : Health) → Goes w (send_by h m u v).after
        go Works = posts (steps_taken (server m u)) refl
        go Failed = posts (steps_taken (server m u)) refl
        go IsDown = (w, is, λ x. goes_on_same (w.hist x))

    deliver_goes : (k : ℕ) → Goes w (deliver m k).after
    unfolding deliver
    deliver_goes k = go (message_at m k) refl
      where
        here : Goes w m
        here = (w, is, λ x. goes_on_same (w.hist x))

        found : (k : ℕ) (x : Count) → message_at m k ≡ Some x → (y : Message) × (counted y ≡ x) × IsMade chart w.hist y.sender y.receiver y.step y.update
        found zero x e = absurd (no_record x e)
        found (suc i) x e = at (slice_get w.messages i) refl (sym (slice_get-map counted w.messages i) ∙ ap (λ (l : List Count). slice_get l i) is.messages ∙ e)
          where
            some_same : {y : Count} → Some y ≡ Some x → y ≡ x
            some_same q = cc

            at : (o : Option Message) → slice_get w.messages i ≡ o → option_map counted o ≡ Some x → (y : Message) × (counted y ≡ x) × IsMade chart w.hist y.sender y.receiver y.step y.update
            at None q z = absurd (no_record x z)
            at (Some y) q z =
                let p = is.sound.sent i y (slice_get_within w.messages i y q) in
                (y, some_same z, (subst (λ (v : Message). (v.sender < n) × IsMade chart w.hist v.sender v.receiver v.step v.update) (get_or_from_slice_get w.messages i y y q) p).1)

        comes : (y : Message) → IsMade chart w.hist y.sender y.receiver y.step y.update → IsAccount (with_server m y.receiver (with_came y.sender y.step (server m y.receiver))) → Goes w (with_server m y.receiver (with_came y.sender y.step (server m y.receiver)))
        comes y made account = (
          delivered w (Some y),
          changed y.receiver (with_came y.sender y.step (server m y.receiver)) (delivered w (Some y))
              (λ lt. let e = is.each y.receiver lt in record {
                admissions = e.admissions;
                sealed = e.sealed;
                doubtful = e.doubtful;
                came = λ v j h. holds v j ((v == y.sender) && (j == y.step)) refl (λ old. e.came v j (was ((v == y.sender) && (j == y.step)) ((server m y.receiver).came v j) h old));
              })
              (λ v q. refl) (λ v q. refl) (λ v q. λ i x j. cond (q i && ((x == y.sender) && (j == y.step))) (Some y.update) (w.held v x j)) refl account (sound_deliver chart ok w y made is.sound),
          λ x. goes_on_same (w.hist x),
        )
          where
            was : (p c : Bool) → (p || c) ≡ true → p ≡ false → c ≡ true
            was true c h q = absurd (true≢false q)
            was false c h q = h

            holds : (v j : ℕ) (p : Bool) → ((v == y.sender) && (j == y.step)) ≡ p → (p ≡ false → IsSome (w.held y.receiver v j)) → IsSome (cond ((y.receiver == y.receiver) && ((v == y.sender) && (j == y.step))) (Some y.update) (w.held y.receiver v j))
            holds v j true q f = ap₂ (λ (a b : Bool). is_some (cond (a && b) (Some y.update) (w.held y.receiver v j))) (eq-eqb y.receiver y.receiver refl) q
            holds v j false q f = ap₂ (λ (a b : Bool). is_some (cond (a && b) (Some y.update) (w.held y.receiver v j))) (eq-eqb y.receiver y.receiver refl) q ∙ f refl

        fresh : (x : Count) → message_at m k ≡ Some x → IsAccount (with_server m x.receiver (with_came x.sender x.step (server m x.receiver))) → Goes w (with_server m x.receiver (with_came x.sender x.step (server m x.receiver)))
        fresh x e account =
            let f = found k x e in
            subst (λ (c : Count). IsAccount (with_server m c.receiver (with_came c.sender c.step (server m c.receiver))) → Goes w (with_server m c.receiver (with_came c.sender c.step (server m c.receiver)))) f.1 (λ a. comes f.0 f.2 a) account

        receives : (x : Count) → message_at m k ≡ Some x → (b : Bool) → nat_le x.step (steps_taken (server m x.receiver)) ≡ b → (c : Bool) → (server m x.receiver).came x.sender x.step ≡ c → IsAccount (received m x (server m x.receiver)).after → Goes w (received m x (server m x.receiver)).after
        receives x q true e c f account = rw e here
        receives x q false e true f account = rw e (rw f here)
        receives x q false e false f account = rw e (rw f (fresh x q (rw e at (rw f at account))))

        by_health : (x : Count) → message_at m k ≡ Some x → (h : Health) → IsAccount (come_by h m x).after → Goes w (come_by h m x).after
        by_health x q Works a = receives x q (nat_le x.step (steps_taken (server m x.receiver))) refl ((server m x.receiver).came x.sender x.step) refl a
        by_health x q Failed a = receives x q (nat_le x.step (steps_taken (server m x.receiver))) refl ((server m x.receiver).came x.sender x.step) refl a
        by_health x q IsDown a = here

        go : (o : Option Count) → message_at m k ≡ o → Goes w (deliver_by m o).after
        go None e = here
        go (Some x) e = by_health x e (server m x.receiver).health (subst (λ (o : Option Count). IsAccount (deliver_by m o).after) e (deliver_kept m k is.account))

    -- RECOVERY

    no_came : (u v j : ℕ) → nothing v j ≡ true → IsSome (w.held u v j)
    no_came u v j h = absurd (true≢false (sym h))

    abbrev anew : Option Fuse → Server → Server
    anew fuse s = record s { health = Works; came = nothing; fuse = fuse }

    settles : (u : ℕ) → u < n → (fuse : Option Fuse) (b : Bool) (o : Option Counted) → (server m u).doubt ≡ o → (d : Option Record) → w.doubt u ≡ d → SameDoubt (w.hist u) o d →
        IsAccount (with_server m u (anew fuse (settled_by b o (server m u)))) → Goes w (with_server m u (anew fuse (settled_by b o (server m u))))
    unfolding stand
    settles u lt fuse b None e d f same account = stays u lt (anew fuse (server m u)) refl refl refl (λ v j h. absurd (true≢false (sym h))) account
    settles u lt fuse b (Some c) e None f same account = absurd same
    settles u lt fuse false (Some c) e (Some q) f same account =
        let i = is.each u lt in (
          record w { doubt = with_unit w.doubt u None },
          changed u (anew fuse (record (server m u) { doubt = None })) (record w { doubt = with_unit w.doubt u None })
              (λ l. record { admissions = i.admissions; sealed = i.sealed; came = no_came u; doubtful = subst (λ (o : Option Record). SameDoubt (w.hist u) None o) (sym (at_same w.doubt u None)) tt })
              (λ v q. refl) (λ v q. with_other w.doubt u v None q) (λ v q. refl) refl account
              (sound_doubt chart ok w u None lt is.sound (λ x z. absurd (no_record x z))),
          λ v. goes_on_same (w.hist v),
        )
    settles u lt fuse true (Some (CountedAdmits a)) e (Some q) f same account =
        let i = stood_unit u lt (CountedAdmits a) q same (anew fuse (record (server m u) { doubt = None })) refl refl refl (no_came u) in (
          settled w u true (Some q),
          changed u (stand (CountedAdmits a) (anew fuse (record (server m u) { doubt = None }))) (settled w u true (Some q))
              (λ l. subst (λ (h : History). IsUnitOf (stand (CountedAdmits a) (anew fuse (record (server m u) { doubt = None }))) h (with_unit w.doubt u None u) (w.held u)) (sym (at_same w.hist u (stood q (w.hist u))))
              (subst (λ (o : Option Record). IsUnitOf (stand (CountedAdmits a) (anew fuse (record (server m u) { doubt = None }))) (stood q (w.hist u)) o (w.held u)) (sym (at_same w.doubt u None)) i))
              (λ v z. with_other w.hist u v (stood q (w.hist u)) z) (λ v z. with_other w.doubt u v None z) (λ v z. refl) refl account
              (sound_settle chart ok w u true q lt is.sound f),
          Rattle.wf_worlds.proofs.Sounds.at_each (λ v h. GoesOn (w.hist v) h) w.hist u (stood q (w.hist u)) (stood_on chart q (w.hist u)) (λ v. goes_on_same (w.hist v)),
        )
    settles u lt fuse true (Some (CountedTurns k)) e (Some q) f same account =
        let i = stood_unit u lt (CountedTurns k) q same (anew fuse (record (server m u) { doubt = None })) refl refl refl (no_came u) in
        let t : Server = anew fuse (stand (CountedTurns k) (record (server m u) { doubt = None })) in
        let j : IsUnitOf t (stood q (w.hist u)) None (w.held u) = record { admissions = i.admissions; sealed = i.sealed; came = no_came u; doubtful = i.doubtful } in (
          settled w u true (Some q),
          changed u t (settled w u true (Some q))
              (λ l. subst (λ (h : History). IsUnitOf t h (with_unit w.doubt u None u) (w.held u)) (sym (at_same w.hist u (stood q (w.hist u))))
              (subst (λ (o : Option Record). IsUnitOf t (stood q (w.hist u)) o (w.held u)) (sym (at_same w.doubt u None)) j))
              (λ v z. with_other w.hist u v (stood q (w.hist u)) z) (λ v z. with_other w.doubt u v None z) (λ v z. refl) refl account
              (sound_settle chart ok w u true q lt is.sound f),
          Rattle.wf_worlds.proofs.Sounds.at_each (λ v h. GoesOn (w.hist v) h) w.hist u (stood q (w.hist u)) (stood_on chart q (w.hist u)) (λ v. goes_on_same (w.hist v)),
        )

    recovers : (u : ℕ) → u < n → (b : Bool) → IsAccount (with_server m u (recovered b (server m u)).1) → Goes w (with_server m u (recovered b (server m u)).1)
    unfolding recovered
    recovers u lt b account = go (strokes 1 (server m u).fuse) account
      where
        go : (met : Met) → IsAccount (with_server m u (recovered_by b (server m u) met).1) → Goes w (with_server m u (recovered_by b (server m u) met).1)
        go (Done fuse) account = settles u lt fuse b (server m u).doubt refl (w.doubt u) refl (is.each u lt).doubtful account
        go (SetOff k what) account = stays u lt (record (fallen (server m u)) { fuse = None }) refl refl refl (λ v j h. absurd (true≢false (sym h))) account

    crashes : (u : ℕ) → u < n → (h : Health) → IsAccount (with_server m u (crash_by h (server m u)).1) → Goes w (with_server m u (crash_by h (server m u)).1)
    crashes u lt Works account = stays u lt (fallen (server m u)) refl refl refl (λ v j h. absurd (true≢false (sym h))) account
    crashes u lt Failed account = stays u lt (fallen (server m u)) refl refl refl (λ v j h. absurd (true≢false (sym h))) account
    crashes u lt IsDown account = stays u lt (server m u) refl refl refl (λ v j h. h) account

  -- A ROUND

  append_assoc : {A : Type 0} (xs ys zs : List A) → (xs ++ ys) ++ zs ≡ xs ++ (ys ++ zs)
  append_assoc [] ys zs = refl
  append_assoc {A} (x ∷ xs) ys zs = ap (λ (l : List A). x ∷ l) (append_assoc xs ys zs)

  on_and_on : (h g k : History) → GoesOn h g → GoesOn g k → GoesOn h k
  on_and_on h g k p q = record {
    more = p.more ++ q.more;
    later = p.later ++ q.later;
    admissions = q.admissions ∙ ap (λ (l : List Admission). l ++ q.more) p.admissions ∙ append_assoc h.admissions p.more q.more;
    turns = q.turns ∙ ap (λ (l : List Rattle.wf_histories.specs.Histories.TurnDone). l ++ q.later) p.turns ∙ append_assoc h.turns p.later q.later;
  }

  chain : (w : World) (m k : CountingMachine) → Goes w m → ((v : World) → IsWorldOf chart m v → Goes v k) → Goes w k
  chain w m k a f = let b = f a.0 a.1 in (b.0, b.1, λ u. on_and_on (w.hist u) (a.0.hist u) (b.0.hist u) (a.2 u) (b.2 u))

  all_delivered : (ks : List ℕ) (m : CountingMachine) (w : World) → IsWorldOf chart m w → Goes w (after_delivery m ks)
  all_delivered [] m w is = (w, is, λ u. goes_on_same (w.hist u))
  all_delivered (k ∷ ks) m w is = chain w (deliver m k).after (after_delivery (deliver m k).after ks) (deliver_goes m w is k) (λ v i. all_delivered ks (deliver m k).after v i)

  all_posted : (vs : List ℕ) (u : ℕ) → u < n → (m : CountingMachine) (w : World) → IsWorldOf chart m w → Goes w (after_posts m u vs)
  all_posted [] u lt m w is = (w, is, λ u. goes_on_same (w.hist u))
  all_posted (v ∷ vs) u lt m w is =
      chain w (after_exchange m u v) (after_posts (after_exchange m u v) u vs)
      (chain w (send m u v).after (after_exchange m u v) (send_goes m w is u v lt) (λ x i. all_delivered (range_with_len (length m.messages + 1) (length (send m u v).after.messages - length m.messages)) (send m u v).after x i))
      (λ x i. all_posted vs u lt (after_exchange m u v) x i)

  all_exchanged : (us : List ℕ) → ((u : ℕ) → Mem u us → u < n) → (m : CountingMachine) (w : World) → IsWorldOf chart m w → Goes w (after_exchanges m us)
  all_exchanged [] lt m w is = (w, is, λ u. goes_on_same (w.hist u))
  all_exchanged (u ∷ us) lt m w is =
      chain w (after_posts m u (others m u)) (after_exchanges (after_posts m u (others m u)) us) (all_posted (others m u) u (lt u (inl refl)) m w is)
      (λ x i. all_exchanged us (λ v k. lt v (inr k)) (after_posts m u (others m u)) x i)

  all_turned : (us : List ℕ) → ((u : ℕ) → Mem u us → u < n) → (m : CountingMachine) (w : World) → IsWorldOf chart m w → Goes w (after_turns m us)
  all_turned [] lt m w is = (w, is, λ u. goes_on_same (w.hist u))
  all_turned (u ∷ us) lt m w is = chain w (after_turn m u) (after_turns (after_turn m u) us) (turn_goes m w is u (lt u (inl refl))) (λ x i. all_turned us (λ v k. lt v (inr k)) (after_turn m u) x i)

  units_below : (m : CountingMachine) (w : World) → IsWorldOf chart m w → (u : ℕ) → Mem u (all_units m) → u < n
  units_below m w is u k = let r = (range_mem 0 (length m.servers) u k).1 in let e = is.units in omega (arith, r, e)

  -- EACH LINE

  line_goes : (m : CountingMachine) (w : World) (is : IsWorldOf chart m w) (stands : Bool) (x : Line) → is_line chart x ≡ true → Goes w (act chart m stands x).after
  unfolding act admit round is_line
  line_goes m w is stands (line.Admit u request outer) fits =
      admits m w is u.0 (ltb-true u.0 n (and_both (is_unit chart u) _ fits).0) (record { request = request; outer = outer }) (bar_at (server m u.0).health) refl (asked request (server m u.0).admissions) (lets chart m u.0 outer) refl (act_keeps chart m stands (line.Admit u request outer) is.account)
  line_goes m w is stands (line.Turn u) fits = turn_goes m w is u.0 (ltb-true u.0 n fits)
  line_goes m w is stands (line.Send u v) fits = send_goes m w is u.0 v.0 (ltb-true u.0 n (and_both (is_unit chart u) _ fits).0)
  line_goes m w is stands (line.Deliver k) fits = deliver_goes m w is k
  line_goes m w is stands (line.Crash u outcome) fits = crashes m w is u.0 (ltb-true u.0 n fits) (server m u.0).health (act_keeps chart m stands (line.Crash u outcome) is.account)
  line_goes m w is stands (line.Arm u k what) fits =
      stays m w is u.0 (ltb-true u.0 n (and_both (is_unit chart u) _ fits).0) (record (server m u.0) { fuse = Some (record { left = k; what = what }) }) refl refl refl (λ v j h. h) (act_keeps chart m stands (line.Arm u k what) is.account)
  line_goes m w is stands (line.Recover u) fits = recovers m w is u.0 (ltb-true u.0 n fits) stands (act_keeps chart m stands (line.Recover u) is.account)
  line_goes m w is stands (line.Show u) fits = (w, is, λ u. goes_on_same (w.hist u))
  line_goes m w is stands (line.Items u) fits = (w, is, λ u. goes_on_same (w.hist u))
  line_goes m w is stands line.Round fits =
      chain w (after_exchanges m (all_units m)) (after_turns (after_exchanges m (all_units m)) (all_units (after_exchanges m (all_units m)))) (all_exchanged (all_units m) (units_below m w is) m w is)
      (λ x i. all_turned (all_units (after_exchanges m (all_units m))) (units_below (after_exchanges m (all_units m)) x i) (after_exchanges m (all_units m)) x i)

pub line_has_world : LineHasWorld
line_has_world chart m w stands x ok fits is = line_goes chart ok m w is stands x fits

length_new : (k : ℕ) → length (Rattle.std.specs.Prelude.replicate k new_server) ≡ k
length_new zero = refl
length_new (suc k) = ap suc (length_new k)

pub first_has_world : FirstHasWorld
first_has_world chart ok = record {
  units = length_new (length chart.units);
  each = λ u lt. subst (λ (s : Server). IsUnitOf s (first_world.hist u) None (first_world.held u)) (sym (new_at (length chart.units) u)) (record { admissions = refl; sealed = refl; came = λ v j h. absurd (true≢false (sym h)); doubtful = tt });
  messages = refl;
  account = first_account chart;
  sound = first_sound chart ok;
}

lines_go : (chart : Chart) → IsAccepted chart → (bs : List Bool) (xs : List (ℕ × Line)) → list_all (λ x. is_line chart x.1) xs ≡ true → (m : CountingMachine) (w : World) → IsWorldOf chart m w → (v : World) × IsWorldOf chart (after_lines chart m bs xs) v
lines_go chart ok bs [] fits m w is = (w, is)
lines_go chart ok bs (x ∷ xs) fits m w is =
    let a = and_both (is_line chart x.1) (list_all (λ (x : ℕ × Line). is_line chart x.1) xs) fits in
    let b = line_goes chart ok m w is (first_outcome bs) x.1 a.0 in
    lines_go chart ok (other_outcomes bs) xs a.1 (act chart m (first_outcome bs) x.1).after b.0 b.1

pub play_has_world : PlayHasWorld
play_has_world chart bs xs ok fits = lines_go chart ok bs xs fits (first_machine chart) first_world (first_has_world chart ok)
