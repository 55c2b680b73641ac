-- What the lists of a part and of its field of peers say.
use Rattle.std.proofs.Common.{◌≡◌, ℕ, ◌+◌, ◌<◌, ◌==◌, ◌&&◌, not, nat_lt, cond, Bool, true, false, List, [], ◌∷◌, length, map, filter, find, Option, Some, inl, inr, refl, sym, ap, ◌∙◌, arith, eqb-true, eq-eqb, true≢false}
use Rattle.std.specs.List.{list_any, range_with_len}
use Rattle.std.specs.Option.{option_map_or}
use Rattle.wf_model.specs.declared.chart.Chart.{Chart}
use Rattle.wf_model.specs.declared.update.Update.{Update}
use Rattle.wf_model.specs.Tree.{all_states, all_events, all_acts, is_among}
use Rattle.wf_model.proofs.Bools.{Mem, any_map}
use Rattle.wf_semantics.proofs.Lists.{mem_range, mem_filter}
use Rattle.wf_parts.specs.Known.{knows_state, knows_var, knows_event, knows_act}
use Rattle.wf_parts.specs.Parts.{numbered, known_state, known_variable, known_event, known_activity, part_of}
use Rattle.wf_views.specs.Knowledge.{known_to}
use Rattle.wf_views.specs.Relevant.{is_listed, cut_update, relevant, is_within}
use Rattle.wf_views.proofs.Lists.{among_range, among_numbered}
use Rattle.wf_views.proofs.Cutting.{SameOn, update_alike}
use Rattle.wf_model.specs.Ids.{state_id}
use Rattle.wf_parts.specs.declared.data.Known.{Known}
use Rattle.wf_parts.specs.Peers.{held_by, known_of, peers_of}

-- a list of records with ids, looked up by an id
pub find_map : {A : Type 0} (f : ℕ → A) (id : A → ℕ) → ((t : ℕ) → id (f t) ≡ t) → (ts : List ℕ) (t : ℕ) → Mem t ts → find (λ p. id p == t) (map f ts) ≡ Some (f t)
find_map f id h [] t m = absurd m
find_map {A} f id h (x ∷ ts) t m = go (id (f x) == t) refl (λ w. find_map f id h ts t w)
  where
    go : (b : Bool) → (id (f x) == t) ≡ b → (Mem t ts → find (λ p. id p == t) (map f ts) ≡ Some (f t)) → cond b (Some (f x)) (find (λ p. id p == t) (map f ts)) ≡ Some (f t)
    go true e ih = ap (λ (y : ℕ). Some (f y)) (sym (h x) ∙ eqb-true (id (f x)) t e)
    go false e ih = elim m [ inl q ↦ absurd (true≢false (sym (eq-eqb (id (f x)) t (h x ∙ q)) ∙ e)) | inr w ↦ ih w ]

-- what a list of such a range has
in_range : (test : ℕ → Bool) (n s : ℕ) → is_among (filter test (range_with_len 0 n)) s ≡ (nat_lt s n && test s)
in_range test n s = among_range test 0 n s (omega arith) ∙ ap (λ (m : ℕ). nat_lt s m && test s) (let q : 0 + n ≡ n = omega arith in q)

pub in_numbered : {A : Type 0} (test : ℕ → Bool) (xs : List A) (s : ℕ) → list_any (λ x. x.0 == s) (numbered test xs) ≡ (nat_lt s (length xs) && test s)
in_numbered test xs s = among_numbered test 0 xs s ∙ in_range test (length xs) s

module _ (chart : Chart) (v : ℕ) where
  -- what v's part knows
  pub part_states : (s : ℕ) → (known_to (part_of chart v)).states s ≡ (nat_lt s (length chart.states) && knows_state chart v s)
  unfolding part_of
  part_states s = any_map (λ known. known.id.0 == s) (known_state chart) (numbered (knows_state chart v) chart.states) ∙ in_numbered (knows_state chart v) chart.states s

  pub part_vars : (x : ℕ) → (known_to (part_of chart v)).vars x ≡ (nat_lt x (length chart.vars) && knows_var chart v x)
  unfolding part_of
  part_vars x = any_map (λ known. known.id.0 == x) known_variable (numbered (knows_var chart v) chart.vars) ∙ in_numbered (knows_var chart v) chart.vars x

  pub part_events : (e : ℕ) → (known_to (part_of chart v)).events e ≡ (nat_lt e (length chart.events) && knows_event chart v e)
  unfolding part_of
  part_events e = any_map (λ known. known.id.0 == e) known_event (numbered (knows_event chart v) chart.events) ∙ in_numbered (knows_event chart v) chart.events e

  pub part_acts : (a : ℕ) → (known_to (part_of chart v)).acts a ≡ (nat_lt a (length chart.acts) && knows_act chart v a)
  unfolding part_of
  part_acts a = any_map (λ known. known.id.0 == a) (known_activity chart v) (numbered (knows_act chart v) chart.acts) ∙ in_numbered (knows_act chart v) chart.acts a

  module _ (u : ℕ) where
    both_known : (lt h k : Bool) → h ≡ true → (lt && (h && k)) ≡ (lt && k)
    both_known lt h k e = ap (λ (b : Bool). lt && (b && k)) e

    -- and what u's field says of it
    listed : SameOn (held_by chart u) (is_listed (known_of chart u v)) (known_to (part_of chart v))
    listed = record {
      states = λ s h.
          any_map (λ i. i.0 == s) state_id (filter (λ s. (held_by chart u).states s && knows_state chart v s) (all_states chart))
          ∙ in_range (λ s. (held_by chart u).states s && knows_state chart v s) (length chart.states) s
          ∙ both_known (nat_lt s (length chart.states)) ((held_by chart u).states s) (knows_state chart v s) h ∙ sym (part_states s);
      vars = λ x h.
          any_map (λ i. i.0 == x) (λ n. record { 0 = n }) (filter (λ x. (held_by chart u).vars x && knows_var chart v x) (range_with_len 0 (length chart.vars)))
          ∙ in_range (λ x. (held_by chart u).vars x && knows_var chart v x) (length chart.vars) x
          ∙ both_known (nat_lt x (length chart.vars)) ((held_by chart u).vars x) (knows_var chart v x) h ∙ sym (part_vars x);
      events = λ e h.
          any_map (λ i. i.0 == e) (λ n. record { 0 = n }) (filter (λ e. (held_by chart u).events e && knows_event chart v e) (all_events chart))
          ∙ in_range (λ e. (held_by chart u).events e && knows_event chart v e) (length chart.events) e
          ∙ both_known (nat_lt e (length chart.events)) ((held_by chart u).events e) (knows_event chart v e) h ∙ sym (part_events e);
      acts = λ a h.
          any_map (λ i. i.0 == a) (λ n. record { 0 = n }) (filter (λ a. (held_by chart u).acts a && knows_act chart v a) (all_acts chart))
          ∙ in_range (λ a. (held_by chart u).acts a && knows_act chart v a) (length chart.acts) a
          ∙ both_known (nat_lt a (length chart.acts)) ((held_by chart u).acts a) (knows_act chart v a) h ∙ sym (part_acts a);
    }

    peer_found : v < length chart.units → (v ≡ u → ⊥) → find (λ known. known.unit.0 == v) (peers_of chart u) ≡ Some (known_of chart u v)
    unfolding peers_of
    peer_found lt ne =
        find_map (known_of chart u) (λ known. known.unit.0) (λ t. refl) (filter (λ w. not (w == u)) (range_with_len 0 (length chart.units))) v
        (mem_filter (λ w. not (w == u)) (range_with_len 0 (length chart.units)) v (mem_range 0 (length chart.units) v (omega arith) (omega arith)) (ap not (apart (v == u) refl)))
      where
        apart : (b : Bool) → (v == u) ≡ b → (v == u) ≡ false
        apart true e = absurd (ne (eqb-true v u e))
        apart false e = e

    pub relevant_is_known : (update : Update) → v < length chart.units → (v ≡ u → ⊥) → is_within (held_by chart u) update ≡ true →
        relevant (peers_of chart u) update v ≡ cut_update (known_to (part_of chart v)) update
    relevant_is_known update lt ne h =
        ap (λ (o : Option Known). cut_update (option_map_or is_listed o (record { states = λ s. false; vars = λ x. false; events = λ e. false; acts = λ a. false })) update) (peer_found lt ne)
        ∙ update_alike (held_by chart u) (is_listed (known_of chart u v)) (known_to (part_of chart v)) listed update h
