use Rattle.std.proofs.Common.{◌≡◌, sym, ap, ◌∙◌, subst, rules}
use Rattle.wf_claims.specs.Counts.{once_below}
use Rattle.wf_claims.specs.declared.claims.ClaimSeat.{ClaimSeat}
use Rattle.wf_claims.specs.Seats.{Source, Drawer, AreAt, AreSeatsOf, drawn_times}
use Rattle.wf_claims.proofs.DrawLemmas.{homes_of, all_drawn, first_word}
use Rattle.wf_claims.proofs.claims.Claims.end.Goals as goal

pub join_all-joined-requires : goal.join_all-joined-requires
join_all-joined-requires c = record {
  table = (
    search rules,
    subst (λ (s : Source). AreAt s.home c.into_vec.result.items) (sym c.self.view_is) (homes_of c.args.self _ (subst (AreSeatsOf c.args.self) (sym c.into_vec.ensures) c.requires.seats)),
  );
}

pub returns : goal.returns
returns c x =
    let f = c.close_with-closed.ensures.values.2 in
    let parts : c.join_all-joined.result.me.0.parts ≡ c.self.inside.table.shared.key.seats = search rules in
    let all = all_drawn _ _ _ _ _ f.0.views f.1.1 parts f.1.0.1 x in
    ap (drawn_times x) (sym c.into_vec.ensures) ∙ sym (c.join_all-joined.ensures.drawn x) ∙ all ∙ ap (once_below x) (first_word _ _ _ c.word-drawn.ensures f.2)
