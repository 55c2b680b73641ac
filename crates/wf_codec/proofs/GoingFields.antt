-- The fields of an update go on: with more bytes behind, each is read so, or stays bad.
use Rattle.std.proofs.Common.{ℕ, eqb, Option, None, arith}
use Rattle.std.specs.Int.{w16, w32}
use Rattle.wf_model.specs.Txt.{is_text_char}
use Rattle.wf_model.specs.declared.ids.StateId.{StateId}
use Rattle.wf_model.specs.declared.ids.EventId.{EventId}
use Rattle.wf_model.specs.declared.ids.TransId.{TransId}
use Rattle.wf_model.specs.declared.outer.Output.{Output}
use Rattle.wf_model.specs.declared.outer.Outer.{Outer}
use Rattle.wf_model.specs.declared.update.Write.{Write}
use Rattle.wf_model.specs.declared.update.StartAt.{StartAt}
use Rattle.wf_model.specs.declared.update.Update.{Update}
use Rattle.wf_codec.specs.declared.field.Numbers.{Numbers}
use Rattle.wf_codec.specs.Tags.{bool_sort, int_sort, happen_kind}
use Rattle.wf_codec.specs.Reading.{byte_that, number_in}
use Rattle.wf_codec.specs.Fields.{bool_at, int_at, text_at, value_at, state_at, event_at, trans_at, write_at, start_at, output_at, happening_at, completion_at, outer_at, list_at, update_at}
use Rattle.wf_codec.proofs.Going.{Reader, GoesOn, goes_then, goes_map, goes_if, goes_that, goes_byte, goes_number, goes_eight, goes_items}

goes_16 : (least limit : ℕ) → GoesOn (number_in w16 least limit)
goes_16 least limit = goes_number w16 least limit (omega arith) (omega arith)

goes_32 : (least limit : ℕ) → GoesOn (number_in w32 least limit)
goes_32 least limit = goes_number w32 least limit (omega arith) (omega arith)

goes_bool : GoesOn bool_at
unfolding bool_at
goes_bool = goes_map _ _ (goes_byte _ _)

goes_int : GoesOn int_at
unfolding int_at
goes_int = goes_map _ _ goes_eight

goes_text : GoesOn text_at
unfolding text_at
goes_text = goes_then _ _ (goes_byte _ _) (λ len. goes_map _ _ (goes_items (λ before. byte_that is_text_char) (λ before. goes_that is_text_char) len None))

pub goes_value : GoesOn value_at
unfolding value_at
goes_value = goes_then _ _ (goes_byte _ _) (λ sort. goes_if (eqb sort bool_sort) _ _ goes_bool (goes_if (eqb sort int_sort) _ _ goes_int goes_text))

pub goes_state : (before : Option StateId) → GoesOn (state_at before)
unfolding state_at
goes_state before = goes_map _ _ (goes_16 _ _)

pub goes_event : (numbers : Numbers) (before : Option EventId) → GoesOn (event_at numbers before)
unfolding event_at
goes_event numbers before = goes_map _ _ (goes_16 _ _)

pub goes_trans : (before : Option TransId) → GoesOn (trans_at before)
unfolding trans_at
goes_trans before = goes_map _ _ (goes_16 _ _)

pub goes_write : (numbers : Numbers) (before : Option Write) → GoesOn (write_at numbers before)
unfolding write_at
goes_write numbers before = goes_then _ _ (goes_16 _ _) (λ var. goes_then _ _ (goes_16 _ _) (λ trans. goes_map _ _ goes_value))

pub goes_start : (numbers : Numbers) (before : Option StartAt) → GoesOn (start_at numbers before)
unfolding start_at
goes_start numbers before = goes_then _ _ (goes_16 _ _) (λ act. goes_then _ _ (goes_16 _ _) (λ trans. goes_map _ _ (goes_byte _ _)))

pub goes_output : (numbers : Numbers) (before : Option Output) → GoesOn (output_at numbers before)
unfolding output_at
goes_output numbers before = goes_then _ _ (goes_16 _ _) (λ var. goes_map _ _ goes_value)

goes_happening : (numbers : Numbers) → GoesOn (happening_at numbers)
unfolding happening_at
goes_happening numbers = goes_map _ _ (goes_16 _ _)

goes_completion : (numbers : Numbers) → GoesOn (completion_at numbers)
unfolding completion_at
goes_completion numbers =
    goes_then _ _ (goes_32 _ _) (λ item. goes_then _ _ (goes_16 _ _) (λ act. goes_then _ _ (goes_byte _ _) (λ count.
    goes_map _ _ (goes_items (output_at numbers) (goes_output numbers) count None))))

pub goes_outer : (numbers : Numbers) (before : Option Outer) → GoesOn (outer_at numbers before)
unfolding outer_at
goes_outer numbers before = goes_then _ _ (goes_byte _ _) (λ kind. goes_if (eqb kind happen_kind) _ _ (goes_happening numbers) (goes_completion numbers))

pub goes_list : {A : Type 0} (item : Option A → Reader A) (bound : ℕ) → ((before : Option A) → GoesOn (item before)) → GoesOn (list_at item bound)
unfolding list_at
goes_list item bound each = goes_then _ _ (goes_16 _ _) (λ count. goes_items item each count None)

pub goes_update : (numbers : Numbers) (before : Option Update) → GoesOn (update_at numbers before)
unfolding update_at
goes_update numbers before =
    goes_then _ _ (goes_byte _ _) (λ tag. goes_then _ _ (goes_byte _ _) (λ unit. goes_then _ _ (goes_32 _ _) (λ step.
    goes_then _ _ (goes_list _ _ goes_state) (λ flips. goes_then _ _ (goes_list _ _ (goes_write _)) (λ writes. goes_then _ _ (goes_list _ _ (goes_event _)) (λ raised.
    goes_then _ _ (goes_list _ _ (goes_start _)) (λ starts. goes_then _ _ (goes_list _ _ goes_trans) (λ fired. goes_map _ _ (goes_list _ _ (goes_outer _))))))))))
