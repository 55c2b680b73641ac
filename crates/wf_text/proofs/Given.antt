-- What a text is given, by what its tokens and their reading give.
use Rattle.std.proofs.Common.{◌≡◌, ◌≢◌, ℕ, List, [], Result, Ok, Err, refl, sym, ap, ◌∙◌}
use Rattle.wf_model.specs.declared.chart.Chart.{Chart}
use Rattle.wf_lex.specs.declared.token.Token.{Token}
use Rattle.wf_lex.specs.declared.token.LexFault.{LexFault}
use Rattle.wf_lex.specs.declared.token.LexFault.TheVariants as lex
use Rattle.wf_lex.specs.Lex.{tokens_of}
use Rattle.wf_model.specs.Steps.{Gives}
use Rattle.wf_cursor.specs.declared.fault.TextFault.{TextFault}
use Rattle.wf_cursor.specs.declared.fault.TextFault.TheVariants as fault
use Rattle.wf_cursor.specs.Fault.{fault_of}
use Rattle.wf_cursor.specs.Input.{start_of}
use Rattle.wf_text.specs.declared.chart_fault.ChartFault.{ChartFault}
use Rattle.wf_text.specs.declared.chart_fault.ChartFault.TheVariants as placed
use Rattle.wf_text.specs.ChartFaults.{placed_fault}
use Rattle.wf_text.specs.Text.{chart_of, chart_from, with_place, whole, contents}

-- a placed fault that isn't want of memory is that of a fault that isn't
not_want : (text : List ℕ) (tokens : List Token) (e : TextFault) → placed_fault text tokens e ≢ placed.NoMemory → e ≢ fault.NoMemory
unfolding placed_fault
not_want text tokens e other is = other (ap (placed_fault text tokens) is)

pub read_ok : (text : List ℕ) (tokens : List Token) (chart : Chart) → tokens_of text ≡ Ok tokens → whole (contents (start_of text tokens)) ≡ Ok chart
    → chart_of text ≡ Ok chart
unfolding chart_of
read_ok text tokens chart cut is = ap (chart_from text) cut ∙ ap (with_place text tokens) is

pub read_err : (text : List ℕ) (tokens : List Token) (e : TextFault) → tokens_of text ≡ Ok tokens → (e ≢ fault.NoMemory → whole (contents (start_of text tokens)) ≡ Err e)
    → placed_fault text tokens e ≢ placed.NoMemory → chart_of text ≡ Err (placed_fault text tokens e)
unfolding chart_of
read_err text tokens e cut is other = ap (chart_from text) cut ∙ ap (with_place text tokens) (is (not_want text tokens e other))

pub cut_err : (text : List ℕ) (e : LexFault) → Gives lex.NoMemory (Err e) (tokens_of text) → placed_fault text [] (fault_of e) ≢ placed.NoMemory
    → chart_of text ≡ Err (placed_fault text [] (fault_of e))
unfolding chart_of placed_fault
cut_err text (lex.BadByte at) is other = ap (chart_from text) (is (λ want. cc))
cut_err text (lex.TooManyTokens at) is other = ap (chart_from text) (is (λ want. cc))
cut_err text lex.NoMemory is other = absurd (other refl)
