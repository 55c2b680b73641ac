-- The faults of tokens among those of texts.
use Rattle.wf_lex.specs.declared.token.LexFault.{LexFault}
use Rattle.wf_lex.specs.declared.token.LexFault.TheVariants as lex
use Rattle.wf_cursor.specs.declared.fault.TextFault.{TextFault}
use Rattle.wf_cursor.specs.declared.fault.TextFault.TheVariants as fault

abbrev pub fault_of : LexFault → TextFault
fault_of (lex.BadByte at) = fault.BadByte at
fault_of (lex.TooManyTokens at) = fault.TooManyTokens at
fault_of lex.NoMemory = fault.NoMemory
