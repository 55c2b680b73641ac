use Rattle.std.proofs.Common.{◌≡◌, ◌≤◌, ◌∙◌, ℕ, List, length, sym, ap, subst}
use Rattle.std.specs.List.{sum_by}
use Rattle.wf_histories.specs.Histories.{Admission, TurnDone, History}
use Rattle.wf_trail.proofs.Records.{turns_fit, updates_len}
use Rattle.wf_trail.proofs.text.append_kept.Goals as goal

pub append_turns-requires-clause-fits : goal.append_turns-requires-clause-fits
append_turns-requires-clause-fits c =
    let past : History = c.args.replica.now.past in
    let turns : c.turns.result.now ≡ past.turns = c.turns.ensures ∙ ap (λ (h : History). h.turns) c.history-history.ensures.past in
    let admissions : c.admissions.result.now ≡ past.admissions = c.admissions.ensures ∙ ap (λ (h : History). h.admissions) c.history-history.ensures.past in
    let fits = turns_fit _ _ c.history-history.ensures.made in
    subst (λ (ts : List TurnDone). sum_by (λ (turn : TurnDone). turn.sealed) ts ≤ length c.admissions.result.now) (sym turns)
    (subst (λ (xs : List Admission). sum_by (λ (turn : TurnDone). turn.sealed) past.turns ≤ length xs) (sym admissions) fits)

pub append_turns-requires-clause-each : goal.append_turns-requires-clause-each
append_turns-requires-clause-each c =
    ap length c.as_slice.ensures ∙ ap length c.in_ok-updates.ensures ∙ updates_len _ _ ∙ sym (ap length c.turns.ensures)
