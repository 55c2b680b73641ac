-- The run of all parts is the units' shares.
use Rattle.std.proofs.Common.{◌≡◌, ℕ, true, List, [], map, length, sym, ap, ◌∙◌, arith}
use Rattle.std.specs.List.{list_all, range_with_len}
use Rattle.std.proofs.lemmas.List.FromFn.{length-map-range_with_len}
use Rattle.wf_model.specs.declared.chart.Chart.{Chart}
use Rattle.wf_model.specs.declared.outer.Entry.{Entry}
use Rattle.wf_model.specs.Accepted.{IsAccepted}
use Rattle.wf_model.proofs.Rows.{row_agree}
use Rattle.wf_runs.specs.Runs.{IsRun}
use Rattle.wf_parts.specs.declared.data.PartData.{PartData}
use Rattle.wf_parts.specs.Parts.{part_of}
use Rattle.wf_lockstep.specs.Shares.{entries_at, share_of}
use Rattle.wf_lockstep.specs.Lock.{lock_update, outers_by}
use Rattle.wf_lockstep.specs.Ordered.{rises}
use Rattle.wf_lockstep.proofs.Ordered.{lockstep_in_order}

pub parts_long : (chart : Chart) (parts : List PartData) → parts ≡ map (part_of chart) (range_with_len 0 (length chart.units)) → length parts ≡ length chart.units
parts_long chart parts are = ap length are ∙ length-map-range_with_len (part_of chart) 0 (length chart.units)

-- the updates of the run are the shares
pub projected : (chart : Chart) (outer : List (List Entry)) (n : ℕ) → n ≡ length chart.units → IsAccepted chart → IsRun chart outer → entries_at outer 1 ≡ [] → list_all (rises 0) outer ≡ true
    → map (λ j. map (lock_update n (part_of chart) (outers_by outer) j) (range_with_len 0 n)) (range_with_len 0 (length outer))
    ≡ map (λ j. map (λ u. share_of chart outer u j) (range_with_len 0 (length chart.units))) (range_with_len 0 (length outer))
projected chart outer n same ok run first order =
    ap (λ (m : ℕ). map (λ j. map (lock_update m (part_of chart) (outers_by outer) j) (range_with_len 0 m)) (range_with_len 0 (length outer))) same
    ∙ row_agree _ _ (length outer) (λ j lt. row_agree _ _ (length chart.units) (λ u within. (lockstep_in_order chart outer j u ok run first order (omega arith)).1))

pub row_of : (chart : Chart) (parts : List PartData) → parts ≡ map (part_of chart) (range_with_len 0 (length chart.units)) → parts ≡ map (part_of chart) (range_with_len 0 (length parts))
row_of chart parts are = are ∙ ap (λ (n : ℕ). map (part_of chart) (range_with_len 0 n)) (sym (parts_long chart parts are))
