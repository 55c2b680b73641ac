-- What units make of histories that agree is what the parts make side by side.
use Rattle.std.proofs.Common.{◌≡◌, ℕ, zero, suc, ◌+◌, ◌<◌, ◌≤◌, ◌==◌, not, cond, Bool, true, List, ◌∷◌, map, filter, length, refl, sym, ap, ap₂, ◌∙◌, arith, eqb-true, eq-eqb, true≢false}
use Rattle.std.specs.List.{range_with_len, insert, list_all}
use Rattle.wf_model.specs.declared.chart.Chart.{Chart}
use Rattle.wf_model.specs.declared.outer.Outer.{Outer}
use Rattle.wf_parts.specs.declared.data.PartData.{PartData}
use Rattle.wf_model.specs.declared.update.Update.{Update}
use Rattle.wf_model.proofs.Bools.{Mem, not_true}
use Rattle.wf_semantics.proofs.Lists.{range_mem, filter_mem}
use Rattle.wf_parts.specs.Parts.{part_of}
use Rattle.wf_views.specs.Views.{View}
use Rattle.wf_views.specs.OwnSteps.{own_update}
use Rattle.wf_views.specs.Absorbing.{absorbed}
use Rattle.wf_views.specs.Relevant.{relevant}
use Rattle.wf_views.specs.Laws.{IsViewOf}
use Rattle.wf_views.proofs.Lists.{map_agree}
use Rattle.wf_views.proofs.LawsHold.{first_is_view, absorbed_is_view, absorbs_cut}
use Rattle.wf_lockstep.specs.Lock.{lock_view, lock_update}
use Rattle.wf_lockstep.specs.Within.{is_at_unit}
use Rattle.wf_lockstep.proofs.Within.{own_within}
use Rattle.wf_histories.specs.Histories.{History, taken, inputs_at, sealed_by, local, local_update}
use Rattle.wf_histories.specs.Agreement.{peers, Agree, AgreeLock, whole, lean}
use Rattle.wf_parts.specs.Peers.{peers_of}

-- among units behind u none is u
others : (u a n : ℕ) → u < a → filter (λ v. not (v == u)) (range_with_len a n) ≡ range_with_len a n
others u a zero l = refl
others u a (suc n) l =
    ap (λ (b : Bool). cond (not b) (a ∷ filter (λ v. not (v == u)) (range_with_len (a + 1) n)) (filter (λ v. not (v == u)) (range_with_len (a + 1) n))) (not_true (a == u) (λ e. omega (arith, eqb-true a u e)))
    ∙ ap (λ (l : List ℕ). a ∷ l) (others u (a + 1) n (omega arith))

-- the own value in its place among those of the peers
pub placed : {A : Type 0} (f : ℕ → A) (u a i n : ℕ) → u ≡ a + i → i < n → insert (map f (filter (λ v. not (v == u)) (range_with_len a n))) i (f u) ≡ map f (range_with_len a n)
placed f u a i zero e l = absurd (omega (arith, l))
placed {A} f u a zero (suc n) e l =
    ap (λ (b : Bool). insert (map f (cond (not b) (a ∷ filter (λ v. not (v == u)) (range_with_len (a + 1) n)) (filter (λ v. not (v == u)) (range_with_len (a + 1) n)))) 0 (f u)) (eq-eqb a u (omega arith))
    ∙ ap₂ (λ (x : ℕ) (l : List ℕ). f x ∷ map f l) (let q : u ≡ a = omega arith in q) (others u (a + 1) n (omega arith))
placed {A} f u a (suc i) (suc n) e l =
    ap (λ (b : Bool). insert (map f (cond (not b) (a ∷ filter (λ v. not (v == u)) (range_with_len (a + 1) n)) (filter (λ v. not (v == u)) (range_with_len (a + 1) n)))) (suc i) (f u)) (not_true (a == u) (λ q. omega (arith, eqb-true a u q)))
    ∙ ap (λ (l : List A). f a ∷ l) (placed f u (a + 1) i n (omega arith) (omega arith))

peer_of : (n u v : ℕ) → Mem v (peers n u) → (v < n) × (v ≡ u → ⊥)
peer_of n u v m =
    let f = filter_mem (λ v. not (v == u)) (range_with_len 0 n) v m in
    let r = range_mem 0 n v f.0 in
    (omega arith, (λ e. true≢false (sym f.1 ∙ ap not (eq-eqb v u e))))

-- each view of the run is what comes of the cut updates
abbrev pub Absorbs : (ℕ → ℕ → Update → Update) → ℕ → (ℕ → PartData) → (ℕ → ℕ → List Outer) → Type 0
Absorbs cut n part outers =
    (u j : ℕ) → u < n →
    absorbed (part u) (lock_view n part outers j u) (insert (map (λ v. cut v u (lock_update n part outers j v)) (peers n u)) u (lock_update n part outers j u)) ≡ lock_view n part outers (suc j) u

pub absorbs_whole : (n : ℕ) (part : ℕ → PartData) (outers : ℕ → ℕ → List Outer) → Absorbs whole n part outers
unfolding lock_view
absorbs_whole n part outers u j lt = ap (absorbed (part u) (lock_view n part outers j u)) (placed (lock_update n part outers j) u 0 u n (omega arith) lt)

module _ (cut : ℕ → ℕ → Update → Update) (n : ℕ) (part : ℕ → PartData) (h : ℕ → History) (units : (u : ℕ) → (part u).unit.0 ≡ u) (absorbs : Absorbs cut n part (λ v. sealed_by (h v))) where
  abbrev pub Outers : ℕ → ℕ → List Outer
  Outers u = sealed_by (h u)

  -- one step, where the inputs are those of the run and the view so far too
  step_is_lock : (u j : ℕ) → u < n → local (part u) (h u) j ≡ lock_view n part Outers j u →
      inputs_at (h u) j ≡ map (λ v. cut v u (lock_update n part Outers j v)) (peers n u) →
      local (part u) (h u) (suc j) ≡ lock_view n part Outers (suc j) u
  unfolding local
  step_is_lock u j lt e k =
      ap₂ (λ (ins : List Update) (w : ℕ). absorbed (part u) (local (part u) (h u) j) (insert ins w (own_update (part u) (suc j) (local (part u) (h u) j) (sealed_by (h u) j)))) k (units u)
      ∙ ap (λ (view : View). absorbed (part u) view (insert (map (λ v. cut v u (lock_update n part Outers j v)) (peers n u)) u (own_update (part u) (suc j) view (sealed_by (h u) j)))) e
      ∙ absorbs u j lt

  pub update_is_lock : (u j : ℕ) → local (part u) (h u) j ≡ lock_view n part Outers j u → local_update (part u) (h u) (suc j) ≡ lock_update n part Outers j u
  update_is_lock u j e = ap (λ (view : View). own_update (part u) (suc j) view (sealed_by (h u) j)) e

  module _ (agree : Agree cut n part h) where
    pub local_is_lock : (j u : ℕ) → u < n → j ≤ taken (h u) → local (part u) (h u) j ≡ lock_view n part Outers j u
    unfolding local lock_view
    local_is_lock zero u lt le = refl
    local_is_lock (suc j) u lt le =
        step_is_lock u j lt (local_is_lock j u lt (omega arith))
        (agree.kept u j lt (omega arith)
        ∙ map_agree (λ v. cut v u (local_update (part v) (h v) (suc j))) (λ v. cut v u (lock_update n part Outers j v)) (peers n u)
        (λ v w. let p = peer_of n u v w in ap (cut v u) (update_is_lock v j (local_is_lock j v p.0 (omega (arith, agree.made u v lt p.0))))))

    pub agree_lock : AgreeLock cut n part h
    agree_lock = record {
      kept = λ u j lt le. agree.kept u j lt le
          ∙ map_agree (λ v. cut v u (local_update (part v) (h v) (suc j))) (λ v. cut v u (lock_update n part Outers j v)) (peers n u)
          (λ v w. let p = peer_of n u v w in ap (cut v u) (update_is_lock v j (local_is_lock j v p.0 (omega (arith, agree.made u v lt p.0)))));
      made = agree.made;
    }

  module _ (agree : AgreeLock cut n part h) where
    pub lock_local : (j u : ℕ) → u < n → j ≤ taken (h u) → local (part u) (h u) j ≡ lock_view n part Outers j u
    unfolding local lock_view
    lock_local zero u lt le = refl
    lock_local (suc j) u lt le = step_is_lock u j lt (lock_local j u lt (omega arith)) (agree.kept u j lt (omega arith))

    pub lock_agree : Agree cut n part h
    lock_agree = record {
      kept = λ u j lt le. agree.kept u j lt le
          ∙ map_agree (λ v. cut v u (lock_update n part Outers j v)) (λ v. cut v u (local_update (part v) (h v) (suc j))) (peers n u)
          (λ v w. let p = peer_of n u v w in ap (cut v u) (sym (update_is_lock v j (lock_local j v p.0 (omega (arith, agree.made u v lt p.0))))));
      made = agree.made;
    }

-- THE PARTS OF A CHART

pub unit_of_part : (chart : Chart) (u : ℕ) → (part_of chart u).unit.0 ≡ u
unfolding part_of
unit_of_part chart u = refl

module _ (chart : Chart) (outers : ℕ → ℕ → List Outer) where
  pub lock_is_view : (j u : ℕ) → IsViewOf (part_of chart u) (lock_view (length chart.units) (part_of chart) outers j u)
  unfolding lock_view
  lock_is_view zero u = first_is_view (part_of chart u)
  lock_is_view (suc j) u = absorbed_is_view (part_of chart u) (lock_view (length chart.units) (part_of chart) outers j u) (map (λ v. own_update (part_of chart v) (suc j) (lock_view (length chart.units) (part_of chart) outers j v) (outers v j)) (range_with_len 0 (length chart.units))) (lock_is_view j u)

  -- what u has of a step: its own update, and of its peers what they are sent
  abbrev pub sent_to : ℕ → (ℕ → Update) → ℕ → Update
  sent_to u f v = cond (v == u) (f v) (relevant (peers_of chart v) (f v) u)

  pub sent_are : (u : ℕ) (f : ℕ → Update) → u < length chart.units → insert (map (λ v. lean chart v u (f v)) (peers (length chart.units) u)) u (f u) ≡ map (sent_to u f) (range_with_len 0 (length chart.units))
  sent_are u f lt =
      ap₂ (λ (l : List Update) (up : Update). insert l u up) (map_agree (λ v. lean chart v u (f v)) (sent_to u f) (peers (length chart.units) u) (λ v m. off v (peer_of (length chart.units) u v m).1)) own
      ∙ placed (sent_to u f) u 0 u (length chart.units) (omega arith) lt
    where
      off : (v : ℕ) → (v ≡ u → ⊥) → lean chart v u (f v) ≡ cond (v == u) (f v) (relevant (peers_of chart v) (f v) u)
      off v ne = sym (ap (λ (b : Bool). cond b (f v) (relevant (peers_of chart v) (f v) u)) (not_true (v == u) (λ e. ne (eqb-true v u e))))

      own : f u ≡ cond (u == u) (f u) (relevant (peers_of chart u) (f u) u)
      own = sym (ap (λ (b : Bool). cond b (f u) (relevant (peers_of chart u) (f u) u)) (eq-eqb u u refl))

  -- with what each peer is sent
  pub absorbs_lean : ((u j : ℕ) → u < length chart.units → list_all (is_at_unit chart u) (outers u j) ≡ true) → Absorbs (lean chart) (length chart.units) (part_of chart) outers
  unfolding lock_view
  absorbs_lean at u j lt =
      ap (absorbed (part_of chart u) (lock_view (length chart.units) (part_of chart) outers j u)) (sent_are u (lock_update (length chart.units) (part_of chart) outers j) lt)
      ∙ absorbs_cut chart u (lock_view (length chart.units) (part_of chart) outers j u) (lock_update (length chart.units) (part_of chart) outers j) (lock_is_view j u) lt
      (λ v l. own_within chart v (suc j) (lock_view (length chart.units) (part_of chart) outers j v) (outers v j) (at v j l))
