-- The laws of views and updates.
use Rattle.std.proofs.Common.{◌≡◌, ℕ, ◌<◌, ◌==◌, ◌+◌, cond, Bool, true, false, List, map, filter, length, refl, sym, ap, ◌∙◌, arith, eq-eqb, true≢false}
use Rattle.std.specs.List.{list_any, range_with_len}
use Rattle.wf_model.specs.declared.ids.VarId.{VarId}
use Rattle.wf_model.specs.declared.ids.ActId.{ActId}
use Rattle.wf_model.specs.declared.outer.Output.{Output}
use Rattle.wf_model.specs.declared.update.Update.{Update}
use Rattle.wf_model.specs.declared.update.Write.{Write}
use Rattle.wf_parts.specs.declared.data.KnownState.{KnownState}
use Rattle.wf_parts.specs.declared.data.KnownEvent.{KnownEvent}
use Rattle.wf_parts.specs.declared.data.KnownVariable.{KnownVariable}
use Rattle.wf_parts.specs.declared.data.KnownActivity.{KnownActivity}
use Rattle.wf_parts.specs.declared.data.PartData.{PartData}
use Rattle.wf_model.proofs.Bools.{any_map}
use Rattle.wf_semantics.proofs.Lists.{range_mem}
use Rattle.wf_parts.specs.Parts.{part_of}
use Rattle.wf_views.specs.Knowledge.{known_to}
use Rattle.wf_views.specs.Views.{first_view, is_inside, value_now, count_now}
use Rattle.wf_views.specs.OwnSteps.{differs}
use Rattle.wf_views.specs.Absorbing.{absorbed, is_flipped, is_raised, writes_in, starts_in, value_after, start_count}
use Rattle.wf_views.specs.Relevant.{cut_update, relevant}
use Rattle.wf_views.specs.Laws.{FirstIsView, AbsorbedIsView, AbsorbsKnown, RelevantIsKnown, AbsorbsCut}
use Rattle.wf_views.proofs.Lists.{map_map, map_agree, map_known, filter_known}
use Rattle.wf_views.proofs.Cutting.{flipped_same, raised_same, winner_same, count_same, entries_same, update_again}
use Rattle.wf_views.proofs.Listing.{relevant_is_known}
use Rattle.wf_parts.specs.Peers.{Knowledge, peers_of}

pub first_is_view : FirstIsView
unfolding first_view
first_is_view part = record {
  vars = map_map (λ (o : Output). o.var) (λ known. record { var = known.id; val = known.first }) part.vars;
  acts = map_map (λ (a : ActId × ℕ). a.0) (λ known. (known.id, 0)) part.acts;
}

pub absorbed_is_view : AbsorbedIsView
unfolding absorbed
absorbed_is_view part view updates is = record {
  vars = map_map (λ (o : Output). o.var) (λ o. record { var = o.var; val = value_after (writes_in updates) o.var.0 (value_now view o) }) view.vars ∙ is.vars;
  acts = map_map (λ (a : ActId × ℕ). a.0) (λ a. (a.0, count_now view a + start_count a.0.0 (starts_in updates))) view.unclosed ∙ is.acts;
}

pub absorbs_known : AbsorbsKnown
unfolding absorbed
absorbs_known part view updates is =
    let k : Knowledge = known_to part in
    let cut : List Update = map (cut_update k) updates in
    let states : map (λ known. known.id) (filter (λ known. differs (is_inside view known.id.0) (is_flipped cut known.id.0)) part.states) ≡ map (λ known. known.id) (filter (λ known. differs (is_inside view known.id.0) (is_flipped updates known.id.0)) part.states) =
    ap (map (λ (known : KnownState). known.id)) (filter_known (λ known. known.id.0) k.states (λ known. differs (is_inside view known.id.0) (is_flipped cut known.id.0)) (λ known. differs (is_inside view known.id.0) (is_flipped updates known.id.0))
    (λ known h. ap (differs (is_inside view known.id.0)) (flipped_same k known.id.0 h updates)) part.states (λ n e. e)) in
    let raised : map (λ known. known.id) (filter (λ known. is_raised cut known.id.0) part.events) ≡ map (λ known. known.id) (filter (λ known. is_raised updates known.id.0) part.events) =
    ap (map (λ (known : KnownEvent). known.id)) (filter_known (λ known. known.id.0) k.events (λ known. is_raised cut known.id.0) (λ known. is_raised updates known.id.0)
    (λ known h. raised_same k known.id.0 h updates) part.events (λ n e. e)) in
    let vars : map (λ o. record { var = o.var; val = value_after (writes_in cut) o.var.0 (value_now view o) }) view.vars ≡ map (λ o. record { var = o.var; val = value_after (writes_in updates) o.var.0 (value_now view o) }) view.vars =
    map_known (λ o. o.var.0) k.vars (λ o. record { var = o.var; val = value_after (writes_in cut) o.var.0 (value_now view o) }) (λ o. record { var = o.var; val = value_after (writes_in updates) o.var.0 (value_now view o) })
    (λ o h. ap (λ (w : Rattle.std.specs.Prelude.Option Write). record { var = o.var; val = Rattle.std.specs.Option.option_map_or (λ write. write.val) w (value_now view o) }) (winner_same k o.var.0 h updates)) view.vars
    (λ n e. sym (any_map (λ (i : VarId). i.0 == n) (λ (known : KnownVariable). known.id) part.vars) ∙ ap (list_any (λ (i : VarId). i.0 == n)) (sym is.vars) ∙ any_map (λ (i : VarId). i.0 == n) (λ (o : Output). o.var) view.vars ∙ e) in
    let unclosed : map (λ a. (a.0, count_now view a + start_count a.0.0 (starts_in cut))) view.unclosed ≡ map (λ a. (a.0, count_now view a + start_count a.0.0 (starts_in updates))) view.unclosed =
    map_known (λ a. a.0.0) k.acts (λ a. (a.0, count_now view a + start_count a.0.0 (starts_in cut))) (λ a. (a.0, count_now view a + start_count a.0.0 (starts_in updates)))
    (λ a h. ap (λ (n : ℕ). (a.0, count_now view a + n)) (count_same k a.0.0 h updates)) view.unclosed
    (λ n e. sym (any_map (λ (i : ActId). i.0 == n) (λ (known : KnownActivity). known.id) part.acts) ∙ ap (list_any (λ (i : ActId). i.0 == n)) (sym is.acts) ∙ any_map (λ (i : ActId). i.0 == n) (λ (a : ActId × ℕ). a.0) view.unclosed ∙ e) in
    λ i. record { states = states i; vars = vars i; raised = raised i; unclosed = unclosed i; next = entries_same k updates i }

pub relevant_known : RelevantIsKnown
relevant_known chart u v update lt ne h = relevant_is_known chart v u update lt ne h

pub absorbs_cut : AbsorbsCut
absorbs_cut chart u view update is lt within =
    sym (absorbs_known part view (map sent us) is)
    ∙ ap (absorbed part view) (map_map (cut_update k) sent us ∙ map_agree (λ v. cut_update k (sent v)) (λ v. cut_update k (update v)) us (λ v m. let r = range_mem 0 (length chart.units) v m in go v (omega arith) (v == u) refl) ∙ sym (map_map (cut_update k) update us))
    ∙ absorbs_known part view (map update us) is
  where
    part : PartData
    part = part_of chart u

    k : Knowledge
    k = known_to (part_of chart u)

    us : List ℕ
    us = range_with_len 0 (length chart.units)

    sent : ℕ → Update
    sent v = cond (v == u) (update v) (relevant (peers_of chart v) (update v) u)

    go : (v : ℕ) → v < length chart.units → (b : Bool) → (v == u) ≡ b → cut_update k (cond b (update v) (relevant (peers_of chart v) (update v) u)) ≡ cut_update k (update v)
    go v l true e = refl
    go v l false e =
        ap (cut_update k) (relevant_is_known chart u v (update v) lt (λ q. true≢false (sym (eq-eqb v u (sym q)) ∙ e)) (within v l))
        ∙ update_again k (update v)
