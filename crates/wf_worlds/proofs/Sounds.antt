-- What servers do keeps their histories agreeing and their messages their own.
use Rattle.std.proofs.Common.{◌≡◌, ℕ, suc, ◌+◌, ◌<◌, ◌≤◌, ◌==◌, ◌&&◌, ◌⊎◌, not, cond, min, is_ok, Bool, true, false, List, [], ◌∷◌, ◌++◌, map, length, get_or, Option, Some, None, option_map, inl, inr, refl, sym, ap, ap₂, ◌∙◌, subst, arith, eqb-true, eq-eqb}
use Rattle.std.specs.List.{sum, range_with_len, All, slice_get}
use Rattle.std.specs.Option.{option_and_then}
use Rattle.std.proofs.lemmas.List.{map-append, length-append, length-map, get_or_append_left}
use Rattle.std.proofs.Math.Seq.{get_or-append_seam}
use Rattle.std.proofs.lemmas.Option.{slice_get_within, get_or_from_slice_get}
use Rattle.std.proofs.lemmas.List.Sums.{sum_by_push}
use Rattle.wf_model.specs.Limits.{max_sealed}
use Rattle.wf_model.specs.declared.chart.Chart.{Chart}
use Rattle.wf_model.specs.declared.update.Update.{Update}
use Rattle.wf_model.specs.Accepted.{IsAccepted}
use Rattle.wf_model.proofs.Bools.{Mem, and_both}
use Rattle.wf_semantics.proofs.Lists.{range_mem, mem_range, filter_mem, mem_filter}
use Rattle.wf_semantics.proofs.Children.{lt_or_ge}
use Rattle.wf_parts.specs.Parts.{part_of}
use Rattle.wf_views.proofs.Lists.{map_agree}
use Rattle.wf_histories.specs.Histories.{Admission, TurnDone, History, seals, taken, inputs_at, local_update}
use Rattle.wf_histories.specs.Agreement.{Agree, lean, peers}
use Rattle.wf_worlds.specs.Admitting.{lets_in}
use Rattle.wf_worlds.specs.Growing.{GoesOn, Fits, Good, admitted, turned, unsealed}
use Rattle.wf_worlds.specs.Worlds.{Message, Record, Admits, Turns, World, with_unit, gather, stood, Fate, Stands, IsInDoubt, IsLost, Line, Admit, Turn, Send, Deliver, Forget, Settle, write, admit_by, turn_by, letter, with_message, delivered, settled, act, IsLine, after_lines, AreLines, first_history, first_world, IsMade, MayStand, Sound, StandsSound, ActSound, ActGoesOn, WholeRun, SoundIsLean}
use Rattle.wf_worlds.proofs.GoesOn.{taken_on, inputs_on, update_on, goes_on_same, admit_on, turn_on}
use Rattle.wf_worlds.proofs.Growing.{admit_keeps, turn_keeps, turn_seals, turn_takes, good_follows}

pub at_same : {A : Type 0} (f : ℕ → A) (u : ℕ) (x : A) → with_unit f u x u ≡ x
at_same {A} f u x = ap (λ (b : Bool). cond b x (f u)) (eq-eqb u u refl)

-- what holds of the new one at u, and of each old one, holds of all
pub at_each : {A : Type 0} (P : ℕ → A → Type 0) (f : ℕ → A) (u : ℕ) (x : A) → P u x → ((v : ℕ) → P v (f v)) → (v : ℕ) → P v (with_unit f u x v)
at_each {A} P f u x p q v = go (v == u) refl
  where
    go : (b : Bool) → (v == u) ≡ b → P v (cond b x (f v))
    go true e = subst (λ (y : ℕ). P y x) (sym (eqb-true v u e)) p
    go false e = q v

-- what all of them give, each of which is right
gathered : (f : ℕ → Option Update) (g : ℕ → Update) (vs : List ℕ) (ups : List Update) → ((v : ℕ) (up : Update) → Mem v vs → f v ≡ Some up → up ≡ g v) → gather f vs ≡ Some ups → ups ≡ map g vs
gathered f g [] ups h e = cc
gathered f g (v ∷ vs) ups h e = go (f v) refl (gather f vs) refl (λ us q. gathered f g vs us (λ x up m. h x up (inr m)) q) e
  where
    go : (o : Option Update) → f v ≡ o → (r : Option (List Update)) → gather f vs ≡ r → ((us : List Update) → gather f vs ≡ Some us → us ≡ map g vs) →
        option_and_then (λ up. option_map (λ us. up ∷ us) r) o ≡ Some ups → ups ≡ g v ∷ map g vs
    go None p r q ih k = cc
    go (Some up) p None q ih k = cc
    go (Some up) p (Some us) q ih k = let e' : ups ≡ up ∷ us = cc in e' ∙ ap₂ (λ (x : Update) (l : List Update). x ∷ l) (h v up (inl refl) p) (ih us q)

-- and each of them gave something
gather_each : (f : ℕ → Option Update) (vs : List ℕ) (ups : List Update) → gather f vs ≡ Some ups → (v : ℕ) → Mem v vs → (up : Update) × (f v ≡ Some up)
gather_each f [] ups e v m = absurd m
gather_each f (x ∷ vs) ups e v m = go (f x) refl (gather f vs) refl (λ us q w. gather_each f vs us q v w) e
  where
    none_some : None ≡ Some ups → ⊥
    none_some z = cc

    go : (o : Option Update) → f x ≡ o → (r : Option (List Update)) → gather f vs ≡ r → ((us : List Update) → gather f vs ≡ Some us → Mem v vs → (up : Update) × (f v ≡ Some up)) →
        option_and_then (λ up. option_map (λ us. up ∷ us) r) o ≡ Some ups → (up : Update) × (f v ≡ Some up)
    go None p r q ih k = absurd (none_some k)
    go (Some up) p None q ih k = absurd (none_some k)
    go (Some up) p (Some us) q ih k = elim m [
      | inl e ↦ (up, ap f (sym e) ∙ p)
      | inr w ↦ ih us q w
    ]

module _ (chart : Chart) where
  abbrev n : ℕ
  n = length chart.units

  peer_mem : (u v : ℕ) → Mem v (peers n u) → v < n
  peer_mem u v m = let r = range_mem 0 n v (filter_mem (λ v. not (v == u)) (range_with_len 0 n) v m).0 in let lt = r.1 in omega (arith, lt)

  module _ (h g : ℕ → History) (on : (u : ℕ) → GoesOn (h u) (g u)) (fits : (u : ℕ) → u < n → Fits (h u)) where
    -- histories that go on keep what was made
    letter_on : (v u j : ℕ) → v < n → j ≤ taken (h v) + 1 → letter chart g v u j ≡ letter chart h v u j
    letter_on v u j lt le = ap (lean chart v u) (update_on (h v) (g v) (on v) (fits v lt) (part_of chart v) j le)

    made_on : (v u j : ℕ) (up : Update) → v < n → IsMade chart h v u j up → IsMade chart g v u j up
    made_on v u j up lt m = (let a = m.0 in let b = taken_on (h v) (g v) (on v) (fits v lt) in omega (arith, a, b), m.1 ∙ sym (letter_on v u j lt m.0))

    all_made_on : (xs : List Message) → All (λ x. (x.sender < n) × IsMade chart h x.sender x.receiver x.step x.update) xs → All (λ x. (x.sender < n) × IsMade chart g x.sender x.receiver x.step x.update) xs
    all_made_on xs k i d lt = let w = k i d lt in let x = get_or xs i d in (w.0, made_on x.sender x.receiver x.step x.update w.0 w.1)

    -- inputs that agreed agree still
    kept_on : Agree (lean chart) n (part_of chart) h → (u j : ℕ) → u < n → j < taken (h u) → inputs_at (g u) j ≡ map (λ v. letter chart g v u (suc j)) (peers n u)
    kept_on ag u j lt l =
        inputs_on (h u) (g u) (on u) (fits u lt) j l
        ∙ ag.kept u j lt l
        ∙ map_agree (λ v. letter chart h v u (suc j)) (λ v. letter chart g v u (suc j)) (peers n u)
        (λ v m. sym (letter_on v u (suc j) (peer_mem u v m) (let a = ag.made u v lt (peer_mem u v m) in omega (arith, a, l))))

    -- what may stand at a unit whose history is the same may stand still
    stand_on : (u : ℕ) (r : Record) → u < n → g u ≡ h u → MayStand chart h u r → MayStand chart g u r
    stand_on u (Admits a) lt same m = ap (λ (x : History). is_ok (lets_in (part_of chart u) x a.outer)) same ∙ m
    stand_on u (Turns updates) lt same m = (
      m.0
          ∙ map_agree (λ v. letter chart h v u (suc (taken (h u)))) (λ v. letter chart g v u (suc (taken (h u)))) (peers n u)
          (λ v k. sym (letter_on v u (suc (taken (h u))) (peer_mem u v k) (let a = m.1 v (peer_mem u v k) in omega (arith, a))))
          ∙ ap (λ (x : History). map (λ v. letter chart g v u (suc (taken x))) (peers n u)) (sym same),
      (λ v lv. let a = m.1 v lv in let b = taken_on (h v) (g v) (on v) (fits v lv) in let c : taken (g u) ≡ taken (h u) = ap (λ (x : History). taken x) same in omega (arith, a, b, c)),
    )

  module _ (w : World) (u : ℕ) (lt_u : u < n) (s : Sound chart w) (none : w.doubt u ≡ None) (next : History) (on_next : GoesOn (w.hist u) next) (fits_next : Fits next) (good_next : Good chart u next) where
    abbrev new : ℕ → History
    new = with_unit w.hist u next

    on_new : (v : ℕ) → GoesOn (w.hist v) (new v)
    on_new = at_each (λ v h. GoesOn (w.hist v) h) w.hist u next on_next (λ v. goes_on_same (w.hist v))

    fits_new : (v : ℕ) → v < n → Fits (new v)
    fits_new = at_each (λ v h. v < n → Fits h) w.hist u next (λ lt. fits_next) s.fits

    good_new : (v : ℕ) → v < n → Good chart v (new v)
    good_new = at_each (λ v h. v < n → Good chart v h) w.hist u next (λ lt. good_next) s.good

    -- a unit in doubt is another one
    doubt_new : (v : ℕ) (r : Record) → v < n → w.doubt v ≡ Some r → MayStand chart new v r
    doubt_new v r lt e = go (v == u) refl
      where
        some_none : (r : Record) → None ≡ Some r → ⊥
        some_none r q = cc

        go : (b : Bool) → (v == u) ≡ b → MayStand chart new v r
        go true q = absurd (some_none r (sym none ∙ ap w.doubt (sym (eqb-true v u q)) ∙ e))
        go false q = stand_on w.hist new on_new s.fits v r lt (ap (λ (b : Bool). cond b next (w.hist v)) q) (s.doubtful v r lt e)

    -- with agreement all is kept
    sound_new : Agree (lean chart) n (part_of chart) new → Sound chart (record w { hist = new })
    sound_new ag = record {
      agree = ag;
      fits = fits_new;
      good = good_new;
      sent = all_made_on w.hist new on_new s.fits w.messages s.sent;
      held = λ v x j up lt l e. made_on w.hist new on_new s.fits x v j up l (s.held v x j up lt l e);
      doubtful = doubt_new;
    }

  module _ (ok : IsAccepted chart) where
    sound_admits : (w : World) (u : ℕ) (a : Admission) → u < n → Sound chart w → w.doubt u ≡ None → is_ok (lets_in (part_of chart u) (w.hist u) a.outer) ≡ true → Sound chart (record w { hist = with_unit w.hist u (admitted (w.hist u) a) })
    sound_admits w u a lt s none may =
        sound_new w u lt s none (admitted (w.hist u) a) (admit_on (w.hist u) a) (let f = s.fits u lt in let q = length-append (w.hist u).admissions (a ∷ []) in omega (arith, f, q)) (admit_keeps chart u (w.hist u) a ok (s.fits u lt) (s.good u lt) may)
        (record {
          kept = λ v j lv l. kept_on w.hist after on s.fits s.agree v j lv (let e = same v in omega (arith, l, e));
          made = λ v x lv lx. let m = s.agree.made v x lv lx in let e = same v in let f = same x in omega (arith, m, e, f);
        })
      where
        after : ℕ → History
        after = with_unit w.hist u (admitted (w.hist u) a)

        on : (v : ℕ) → GoesOn (w.hist v) (with_unit w.hist u (admitted (w.hist u) a) v)
        on = at_each (λ v h. GoesOn (w.hist v) h) w.hist u (admitted (w.hist u) a) (admit_on (w.hist u) a) (λ v. goes_on_same (w.hist v))

        same : (v : ℕ) → taken (with_unit w.hist u (admitted (w.hist u) a) v) ≡ taken (w.hist v)
        same = at_each (λ v h. taken h ≡ taken (w.hist v)) w.hist u (admitted (w.hist u) a) refl (λ v. refl)

    module _ (w : World) (u : ℕ) (lt_u : u < n) (s : Sound chart w) (none : w.doubt u ≡ None) (ups : List Update) (may : MayStand chart w.hist u (Turns ups)) where
      abbrev after : ℕ → History
      after = with_unit w.hist u (turned (w.hist u) ups)

      on_turn : (v : ℕ) → GoesOn (w.hist v) (after v)
      on_turn = at_each (λ v h. GoesOn (w.hist v) h) w.hist u (turned (w.hist u) ups) (turn_on (w.hist u) ups) (λ v. goes_on_same (w.hist v))

      counts : (v : ℕ) → (v ≡ u) ⊎ (taken (after v) ≡ taken (w.hist v))
      counts v = go (v == u) refl
        where
          go : (b : Bool) → (v == u) ≡ b → (v ≡ u) ⊎ (taken (cond b (turned (w.hist u) ups) (w.hist v)) ≡ taken (w.hist v))
          go true e = inl (eqb-true v u e)
          go false e = inr refl

      at_most : (v : ℕ) → taken (after v) ≤ taken (w.hist v) + 1
      at_most = at_each (λ v h. taken h ≤ taken (w.hist v) + 1) w.hist u (turned (w.hist u) ups) (let q = turn_takes (w.hist u) ups in omega (arith, q)) (λ v. omega arith)

      last_inputs : inputs_at (turned (w.hist u) ups) (taken (w.hist u)) ≡ ups
      last_inputs =
          ap (λ (ls : List (List Update)). get_or ls (taken (w.hist u)) []) (map-append (λ (t : TurnDone). t.inputs) (w.hist u).turns (record { step = taken (w.hist u) + 1; inputs = ups; sealed = min max_sealed (unsealed (w.hist u)) } ∷ []))
          ∙ ap (λ (k : ℕ). get_or (map (λ t. t.inputs) (w.hist u).turns ++ ups ∷ []) k []) (length-map (w.hist u).turns (λ t. t.sealed) ∙ sym (length-map (w.hist u).turns (λ t. t.inputs)))
          ∙ get_or-append_seam (map (λ t. t.inputs) (w.hist u).turns) ups [] []

      new_inputs : inputs_at (after u) (taken (w.hist u)) ≡ map (λ v. letter chart after v u (suc (taken (w.hist u)))) (peers n u)
      new_inputs =
          ap (λ (h : History). inputs_at h (taken (w.hist u))) (at_same w.hist u (turned (w.hist u) ups))
          ∙ last_inputs
          ∙ may.0
          ∙ map_agree (λ v. letter chart w.hist v u (suc (taken (w.hist u)))) (λ v. letter chart after v u (suc (taken (w.hist u)))) (peers n u)
          (λ v m. sym (letter_on w.hist after on_turn s.fits v u (suc (taken (w.hist u))) (peer_mem u v m) (let a = may.1 v (peer_mem u v m) in omega (arith, a))))

      at_end : (v j : ℕ) → v ≡ u → j < taken (after v) → taken (w.hist v) ≤ j → j ≡ taken (w.hist u)
      at_end v j e l k = let c : taken (w.hist v) ≡ taken (w.hist u) = ap (λ (x : ℕ). taken (w.hist x)) e in let m = at_most v in omega (arith, m, c, l, k)

      kept_turn : (v j : ℕ) → v < n → j < taken (after v) → inputs_at (after v) j ≡ map (λ x. letter chart after x v (suc j)) (peers n v)
      kept_turn v j lt l = elim (lt_or_ge j (taken (w.hist v))) [
        | inl k ↦ kept_on w.hist after on_turn s.fits s.agree v j lt k
        | inr k ↦ elim (counts v) [
          | inl e ↦ subst (λ (x : ℕ). inputs_at (after x) j ≡ map (λ y. letter chart after y x (suc j)) (peers n x)) (sym e)
              (subst (λ (i : ℕ). inputs_at (after u) i ≡ map (λ y. letter chart after y u (suc i)) (peers n u)) (sym (at_end v j e l k)) new_inputs)
          | inr q ↦ absurd (omega (arith, q, l, k))
        ]
      ]

      made_turn : (a b : ℕ) → a < n → b < n → taken (after a) ≤ taken (after b) + 1
      made_turn a b la lb = elim (counts a) [
        | inl e ↦
            let c : taken (after a) ≤ taken (w.hist u) + 1 = subst (λ (x : ℕ). taken (after x) ≤ taken (w.hist u) + 1) (sym e) (at_most u) in
            let d = may.1 b lb in let f = taken_on (w.hist b) (after b) (on_turn b) (s.fits b lb) in omega (arith, c, d, f)
        | inr q ↦ let m = s.agree.made a b la lb in let f = taken_on (w.hist b) (after b) (on_turn b) (s.fits b lb) in omega (arith, q, m, f)
      ]

      fits_turn : Fits (turned (w.hist u) ups)
      fits_turn =
          let q : sum (Rattle.wf_histories.specs.Histories.seals (turned (w.hist u) ups)) ≡ sum (seals (w.hist u)) + min max_sealed (unsealed (w.hist u)) = ap sum (turn_seals (w.hist u) ups) ∙ sum_by_push (λ x. x) (seals (w.hist u)) (min max_sealed (unsealed (w.hist u))) in
          let f = s.fits u lt_u in omega (arith, q, f)

      sound_turns : Sound chart (record w { hist = with_unit w.hist u (turned (w.hist u) ups) })
      sound_turns = sound_new w u lt_u s none (turned (w.hist u) ups) (turn_on (w.hist u) ups) fits_turn (turn_keeps chart u (w.hist u) ups (s.fits u lt_u) (s.good u lt_u)) (record { kept = kept_turn; made = made_turn })

    pub sound_stands : (w : World) (u : ℕ) (r : Record) → u < n → Sound chart w → w.doubt u ≡ None → MayStand chart w.hist u r → Sound chart (record w { hist = with_unit w.hist u (stood r (w.hist u)) })
    sound_stands w u (Admits a) lt s none may = sound_admits w u a lt s none may
    sound_stands w u (Turns ups) lt s none may = sound_turns w u lt s none ups may

    -- what is held of all peers may stand as a Turn
    pub turn_may : (w : World) (u : ℕ) (ups : List Update) → u < n → Sound chart w → gather (λ v. w.held u v (suc (taken (w.hist u)))) (peers n u) ≡ Some ups → MayStand chart w.hist u (Turns ups)
    turn_may w u ups lt s all = (gathered (λ v. w.held u v (suc (taken (w.hist u)))) (λ v. letter chart w.hist v u (suc (taken (w.hist u)))) (peers n u) ups (λ v up m e. (held_made v up m e).1) all, near)
      where
        held_made : (v : ℕ) (up : Update) → Mem v (peers n u) → w.held u v (suc (taken (w.hist u))) ≡ Some up → IsMade chart w.hist v u (suc (taken (w.hist u))) up
        held_made v up m e = s.held u v (suc (taken (w.hist u))) up lt (peer_mem u v m) e

        near : (v : ℕ) → v < n → taken (w.hist u) ≤ taken (w.hist v)
        near v lv = go (v == u) refl
          where
            go : (b : Bool) → (v == u) ≡ b → taken (w.hist u) ≤ taken (w.hist v)
            go true e = let q : taken (w.hist v) ≡ taken (w.hist u) = ap (λ (x : ℕ). taken (w.hist x)) (eqb-true v u e) in omega (arith, q)
            go false e =
                let m : Mem v (peers n u) = mem_filter (λ v. not (v == u)) (range_with_len 0 n) v (mem_range 0 n v (omega arith) (omega (arith, lv))) (ap not e) in
                let g = gather_each (λ v. w.held u v (suc (taken (w.hist u)))) (peers n u) ups all v m in
                let a = (held_made v g.0 m g.1).0 in omega (arith, a)

    pub sound_doubt : (w : World) (u : ℕ) (o : Option Record) → u < n → Sound chart w → ((r : Record) → o ≡ Some r → MayStand chart w.hist u r) → Sound chart (record w { doubt = with_unit w.doubt u o })
    sound_doubt w u o lt s may = record { agree = s.agree; fits = s.fits; good = s.good; sent = s.sent; held = s.held; doubtful = doubts }
      where
        doubts : (v : ℕ) (r : Record) → v < n → with_unit w.doubt u o v ≡ Some r → MayStand chart w.hist v r
        doubts v r lv = at_each (λ v p. (r : Record) → v < n → p ≡ Some r → MayStand chart w.hist v r) w.doubt u o (λ r l e. may r e) (λ v r l e. s.doubtful v r l e) v r lv

    sound_write : (w : World) (u : ℕ) (r : Record) (fate : Fate) → u < n → Sound chart w → w.doubt u ≡ None → MayStand chart w.hist u r → Sound chart (write w u r fate)
    sound_write w u r Stands lt s none may = sound_stands w u r lt s none may
    sound_write w u r IsInDoubt lt s none may = sound_doubt w u (Some r) lt s (λ q e. let same : r ≡ q = cc in subst (MayStand chart w.hist u) same may)
    sound_write w u r IsLost lt s none may = s

    pub sound_send : (w : World) (u v j : ℕ) → u < n → j ≤ taken (w.hist u) + 1 → Sound chart w → Sound chart (with_message chart w u v j)
    sound_send w u v j lt l s = record {
      agree = s.agree;
      fits = s.fits;
      good = s.good;
      sent = λ i d k. all_push w.messages (record { sender = u; receiver = v; step = j; update = letter chart w.hist u v j }) s.sent (lt, (l, refl)) i d k;
      held = s.held;
      doubtful = s.doubtful;
    }
      where
        all_push : (xs : List Message) (x : Message) → All (λ x. (x.sender < n) × IsMade chart w.hist x.sender x.receiver x.step x.update) xs → (x.sender < n) × IsMade chart w.hist x.sender x.receiver x.step x.update →
            All (λ x. (x.sender < n) × IsMade chart w.hist x.sender x.receiver x.step x.update) (xs ++ x ∷ [])
        all_push xs x a p i d k = elim (lt_or_ge i (length xs)) [
          | inl q ↦ subst (λ (y : Message). (y.sender < n) × IsMade chart w.hist y.sender y.receiver y.step y.update) (sym (get_or_append_left xs (x ∷ []) d i q)) (a i d q)
          | inr q ↦
              let e : i ≡ length xs = omega (arith, k, length-append xs (x ∷ []), q) in
              subst (λ (y : Message). (y.sender < n) × IsMade chart w.hist y.sender y.receiver y.step y.update) (sym (ap (λ (z : ℕ). get_or (xs ++ x ∷ []) z d) e ∙ get_or-append_seam xs x [] d)) p
        ]

    pub sound_deliver : (w : World) (x : Message) → IsMade chart w.hist x.sender x.receiver x.step x.update → Sound chart w → Sound chart (delivered w (Some x))
    sound_deliver w x m s = record { agree = s.agree; fits = s.fits; good = s.good; sent = s.sent; held = λ u v j up lu lv e. go u v j up lu lv ((u == x.receiver) && ((v == x.sender) && (j == x.step))) refl e; doubtful = s.doubtful }
      where
        go : (u v j : ℕ) (up : Update) → u < n → v < n → (b : Bool) → ((u == x.receiver) && ((v == x.sender) && (j == x.step))) ≡ b → cond b (Some x.update) (w.held u v j) ≡ Some up → IsMade chart w.hist v u j up
        go u v j up lu lv true t e =
            let b = and_both (u == x.receiver) ((v == x.sender) && (j == x.step)) t in
            let a = and_both (v == x.sender) (j == x.step) b.1 in
            let q : x.update ≡ up = cc in
            subst (λ (y : ℕ). IsMade chart w.hist v y j up) (sym (eqb-true u x.receiver b.0))
            (subst (λ (z : ℕ). IsMade chart w.hist z x.receiver j up) (sym (eqb-true v x.sender a.0)) (subst (λ (z : ℕ). IsMade chart w.hist x.sender x.receiver z up) (sym (eqb-true j x.step a.1)) (m.0, sym q ∙ m.1)))
        go u v j up lu lv false t e = s.held u v j up lu lv e

    sound_forget : (w : World) (u : ℕ) (which : ℕ → ℕ → Bool) → Sound chart w → Sound chart (record w { held = λ v x j. cond ((v == u) && which x j) None (w.held v x j) })
    sound_forget w u which s = record { agree = s.agree; fits = s.fits; good = s.good; sent = s.sent; held = λ v x j up lv lx e. go v x j up lv lx ((v == u) && which x j) e; doubtful = s.doubtful }
      where
        none_some : (up : Update) → None ≡ Some up → ⊥
        none_some up q = cc

        go : (v x j : ℕ) (up : Update) → v < n → x < n → (b : Bool) → cond b None (w.held v x j) ≡ Some up → IsMade chart w.hist x v j up
        go v x j up lv lx true e = absurd (none_some up e)
        go v x j up lv lx false e = s.held v x j up lv lx e

    pub sound_settle : (w : World) (u : ℕ) (stands : Bool) (r : Record) → u < n → Sound chart w → w.doubt u ≡ Some r → Sound chart (settled w u stands (Some r))
    sound_settle w u false r lt s e = sound_doubt w u None lt s (λ q k. absurd (none_some q k))
      where
        none_some : (r : Record) → None ≡ Some r → ⊥
        none_some r q = cc
    sound_settle w u true r lt s e =
        sound_stands (record w { doubt = with_unit w.doubt u None }) u r lt (sound_doubt w u None lt s (λ q k. absurd (none_some q k))) (at_same w.doubt u None) (s.doubtful u r lt e)
      where
        none_some : (r : Record) → None ≡ Some r → ⊥
        none_some r q = cc

    pub sound_act : (w : World) (x : Line) → IsLine n x → Sound chart w → Sound chart (act chart w x)
    sound_act w (Admit u a fate) l s = go (w.doubt u) refl (is_ok (lets_in (part_of chart u) (w.hist u) a.outer)) refl
      where
        go : (o : Option Record) → w.doubt u ≡ o → (b : Bool) → is_ok (lets_in (part_of chart u) (w.hist u) a.outer) ≡ b → Sound chart (admit_by o b w u a fate)
        go (Some r) e b q = s
        go None e true q = sound_write w u (Admits a) fate l s e q
        go None e false q = s
    sound_act w (Turn u fate) l s = go (w.doubt u) refl (gather (λ v. w.held u v (suc (taken (w.hist u)))) (peers n u)) refl
      where
        go : (o : Option Record) → w.doubt u ≡ o → (ups : Option (List Update)) → gather (λ v. w.held u v (suc (taken (w.hist u)))) (peers n u) ≡ ups → Sound chart (turn_by o ups w u fate)
        go (Some r) e ups q = s
        go None e None q = s
        go None e (Some ups) q = sound_write w u (Turns ups) fate l s e (turn_may w u ups l s q)
    sound_act w (Send u v) l s =
        sound_send (with_message chart w u v (taken (w.hist u))) u v (suc (taken (w.hist u))) l.0 (omega arith) (sound_send w u v (taken (w.hist u)) l.0 (omega arith) s)
    sound_act w (Deliver i) l s = go (slice_get w.messages i) refl
      where
        go : (o : Option Message) → slice_get w.messages i ≡ o → Sound chart (delivered w o)
        go None e = s
        go (Some x) e =
            let p = s.sent i x (slice_get_within w.messages i x e) in
            sound_deliver w x (subst (λ (y : Message). IsMade chart w.hist y.sender y.receiver y.step y.update) (get_or_from_slice_get w.messages i x x e) p.1) s
    sound_act w (Forget u which) l s = sound_forget w u which s
    sound_act w (Settle u stands) l s = go (w.doubt u) refl
      where
        go : (o : Option Record) → w.doubt u ≡ o → Sound chart (settled w u stands o)
        go None e = s
        go (Some r) e = sound_settle w u stands r l s e

    pub sound_lines : (xs : List Line) (w : World) → AreLines n xs → Sound chart w → Sound chart (after_lines chart w xs)
    sound_lines [] w l s = s
    sound_lines (x ∷ xs) w l s = sound_lines xs (act chart w x) l.1 (sound_act w x l.0 s)

    pub first_good : (u : ℕ) → Good chart u (first_history u)
    unfolding Rattle.wf_histories.specs.Follows.item_acts Rattle.wf_histories.specs.Histories.sealed_by
    first_good u = record { at_unit = refl; items = refl; there = λ j l. absurd (omega (arith, l)); waiting = refl; once = refl; steps = refl; few = refl }

    pub first_sound : Sound chart first_world
    first_sound = record {
      agree = record { kept = λ u j lt k. absurd (omega (arith, k)); made = λ u v lu lv. omega arith };
      fits = λ u lt. omega arith;
      good = λ u lt. first_good u;
      sent = λ i d k. absurd (omega (arith, k));
      held = λ u v j up lu lv e. absurd (none_some up e);
      doubtful = λ u r lt e. absurd (no_record r e);
    }
      where
        none_some : (up : Update) → None ≡ Some up → ⊥
        none_some up q = cc

        no_record : (r : Record) → None ≡ Some r → ⊥
        no_record r q = cc

  -- HISTORIES ONLY GROW

  pub stood_on : (r : Record) (h : History) → GoesOn h (stood r h)
  stood_on (Admits a) h = admit_on h a
  stood_on (Turns ups) h = turn_on h ups

  unit_on : (w : World) (u : ℕ) (r : Record) (v : ℕ) → GoesOn (w.hist v) (with_unit w.hist u (stood r (w.hist u)) v)
  unit_on w u r = at_each (λ v h. GoesOn (w.hist v) h) w.hist u (stood r (w.hist u)) (stood_on r (w.hist u)) (λ v. goes_on_same (w.hist v))

  write_on : (w : World) (u : ℕ) (r : Record) (fate : Fate) (v : ℕ) → GoesOn (w.hist v) ((write w u r fate).hist v)
  write_on w u r Stands v = unit_on w u r v
  write_on w u r IsInDoubt v = goes_on_same (w.hist v)
  write_on w u r IsLost v = goes_on_same (w.hist v)

  pub line_on : (w : World) (x : Line) (v : ℕ) → GoesOn (w.hist v) ((act chart w x).hist v)
  line_on w (Admit u a fate) v = go (w.doubt u) (is_ok (lets_in (part_of chart u) (w.hist u) a.outer))
    where
      go : (o : Option Record) (b : Bool) → GoesOn (w.hist v) ((admit_by o b w u a fate).hist v)
      go (Some r) b = goes_on_same (w.hist v)
      go None true = write_on w u (Admits a) fate v
      go None false = goes_on_same (w.hist v)
  line_on w (Turn u fate) v = go (w.doubt u) (gather (λ v. w.held u v (suc (taken (w.hist u)))) (peers n u))
    where
      go : (o : Option Record) (ups : Option (List Update)) → GoesOn (w.hist v) ((turn_by o ups w u fate).hist v)
      go (Some r) ups = goes_on_same (w.hist v)
      go None None = goes_on_same (w.hist v)
      go None (Some ups) = write_on w u (Turns ups) fate v
  line_on w (Send x y) v = goes_on_same (w.hist v)
  line_on w (Deliver i) v = go (slice_get w.messages i)
    where
      go : (o : Option Message) → GoesOn (w.hist v) ((delivered w o).hist v)
      go None = goes_on_same (w.hist v)
      go (Some x) = goes_on_same (w.hist v)
  line_on w (Forget u which) v = goes_on_same (w.hist v)
  line_on w (Settle u stands) v = go stands (w.doubt u)
    where
      go : (b : Bool) (o : Option Record) → GoesOn (w.hist v) ((settled w u b o).hist v)
      go b None = goes_on_same (w.hist v)
      go true (Some r) = unit_on w u r v
      go false (Some r) = goes_on_same (w.hist v)

pub stands_sound : StandsSound
stands_sound chart w u r ok lt s none may = sound_stands chart ok w u r lt s none may

pub act_sound : ActSound
act_sound chart w x ok l s = sound_act chart ok w x l s

pub act_goes_on : ActGoesOn
act_goes_on chart w x u = line_on chart w x u

pub whole_run : WholeRun
whole_run chart xs ok l = sound_lines chart ok xs first_world l (first_sound chart ok)

pub sound_is_lean : SoundIsLean
sound_is_lean chart w ok s = record { accepted = ok; agree = s.agree; follow = λ u lt. good_follows chart u (w.hist u) (s.good u lt) }
