use Rattle.std.proofs.Common.{◌≡◌, ℕ, [], sym, ap, ◌∙◌, subst}
use Rattle.std.specs.Prelude.{Result, Ok, Err}
use Rattle.std.proofs.lemmas.List.{append-nil}
use Rattle.wf_codec.specs.declared.fault.CodecFault.{CodecFault}
use Rattle.wf_codec.specs.declared.fault.CodecFault.TheVariants as codec
use Rattle.wf_codec.specs.Answers.{Answers}
use Rattle.wf_codec.specs.Spelling.{spelling_of}
use Rattle.wf_model.specs.declared.update.Update.{Update}
use Rattle.wf_world.proofs.fleet.mailing.read_letter.Goals as goal

abbrev first_or : Update → Result (Update × ℕ) CodecFault → Update
first_or d (Ok x) = x.0
first_or d (Err e) = d

pub returns-in-Ok : goal.returns-in-Ok
returns-in-Ok c = λ update whole is. sym (ap (first_or update) (c.in-Ok.ensures.only update [] whole (is ∙ sym (append-nil (spelling_of update)))))

-- what is answered where an update is spelled

ok_not_err : {A E : Type 0} (x : A) (e : E) → Ok x ≡ Err e → ⊥
ok_not_err x e same = cc same

not_short : (result : Result (Update × ℕ) CodecFault) (x : Update × ℕ) → result ≡ Err codec.Short → Answers result (Ok x) → ⊥
not_short result x is answers = ok_not_err x codec.Short (subst (λ (y : Result (Update × ℕ) CodecFault). Answers y (Ok x)) is answers)

not_bad_tag : (result : Result (Update × ℕ) CodecFault) (x : Update × ℕ) → result ≡ Err codec.BadTag → Answers result (Ok x) → ⊥
not_bad_tag result x is answers = ok_not_err x codec.BadTag (subst (λ (y : Result (Update × ℕ) CodecFault). Answers y (Ok x)) is answers)

not_bad_field : (result : Result (Update × ℕ) CodecFault) (x : Update × ℕ) (at : ℕ) → result ≡ Err (codec.BadField at) → Answers result (Ok x) → ⊥
not_bad_field result x at is answers = ok_not_err x (codec.BadField at) (subst (λ (y : Result (Update × ℕ) CodecFault). Answers y (Ok x)) is answers)

pub unreachable-requires : goal.unreachable-requires
unreachable-requires c =
    let update = c.requires.0 in
    not_short c.decode.result (update, _) (c.in-Err-Short.is ∙ ap (λ (e : CodecFault). Err e) c.in-Err-Short.field-0-is)
    (c.decode.ensures.only update [] c.requires.1 (c.requires.2 ∙ sym (append-nil (spelling_of update))))

pub unreachable-unreachable : goal.unreachable-unreachable
unreachable-unreachable c = c.unreachable.result

pub unreachable-requires-in-Err-BadTag : goal.unreachable-requires-in-Err-BadTag
unreachable-requires-in-Err-BadTag c =
    let update = c.requires.0 in
    not_bad_tag c.decode.result (update, _) (c.in-Err-BadTag.is ∙ ap (λ (e : CodecFault). Err e) c.in-Err-BadTag.field-0-is)
    (c.decode.ensures.only update [] c.requires.1 (c.requires.2 ∙ sym (append-nil (spelling_of update))))

pub unreachable-unreachable-in-Err-BadTag : goal.unreachable-unreachable-in-Err-BadTag
unreachable-unreachable-in-Err-BadTag c = c.unreachable-in-Err-BadTag.result

pub unreachable-requires-in-Err-BadField : goal.unreachable-requires-in-Err-BadField
unreachable-requires-in-Err-BadField c =
    let update = c.requires.0 in
    not_bad_field c.decode.result (update, _) _ (c.in-Err-BadField.is ∙ ap (λ (e : CodecFault). Err e) c.in-Err-BadField.field-0-is)
    (c.decode.ensures.only update [] c.requires.1 (c.requires.2 ∙ sym (append-nil (spelling_of update))))

pub unreachable-unreachable-in-Err-BadField : goal.unreachable-unreachable-in-Err-BadField
unreachable-unreachable-in-Err-BadField c = c.unreachable-in-Err-BadField.result
