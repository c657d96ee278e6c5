-- What one layer answers, in the words of the next.
use Rattle.std.specs.Prelude.{ℕ, List, []}
use Rattle.scene_lexer.specs.declared.token.LexFault.{LexFault}
use Rattle.scene_lexer.specs.declared.token.LexFault.TheVariants.{BadByte, OpenComment, OpenString, LongName, NumberRange}
use Rattle.scene_expr.specs.declared.value.ExprFault.{ExprFault}
use Rattle.directive_machine.specs.declared.stop.Stop.{Stop}
use Rattle.item_blocks.specs.declared.fault.ParseFault.{ParseFault}
use Rattle.shelf.specs.declared.disk.HoldFail.{HoldFail}
use Rattle.options.specs.declared.fault.OptionFault.{OptionFault as OptionRefusal}
use Rattle.povfix.specs.declared.outcome.Fault.{Fault}
use Rattle.povfix.specs.declared.outcome.Fault.TheVariants.{Done, OptionFault, SceneFault, Limit, Absent, TextFault, ShelfFault, MessageFault, NoMemory}

-- a refusal of the options, by its kind
abbrev pub option_fault : OptionRefusal → Fault
option_fault (OptionRefusal.UnknownWord place) = OptionFault 1 place
option_fault (OptionRefusal.BadNumber place) = OptionFault 2 place
option_fault (OptionRefusal.Missing place) = OptionFault 3 place
option_fault (OptionRefusal.Range place) = OptionFault 4 place
option_fault (OptionRefusal.AbsentIni place) = OptionFault 5 place
option_fault (OptionRefusal.BadLine place) = OptionFault 6 place
option_fault (OptionRefusal.OutOfProfile place) = OptionFault 7 place
option_fault OptionRefusal.TextFault = TextFault
option_fault OptionRefusal.NoMemory = NoMemory

-- a fault of the tokens, under the letter L
abbrev pub lex_fault : LexFault → Fault
lex_fault (BadByte place) = SceneFault 76 1 place
lex_fault (OpenComment place) = SceneFault 76 2 place
lex_fault (OpenString place) = SceneFault 76 3 place
lex_fault (LongName place) = SceneFault 76 4 place
lex_fault (NumberRange place) = SceneFault 76 5 place
lex_fault LexFault.NoMemory = NoMemory

-- a fault of an expression in a directive, under the letter E
abbrev pub expression_fault : ExprFault → Fault
expression_fault (ExprFault.Expected place) = SceneFault 69 1 place
expression_fault (ExprFault.UnknownName place) = SceneFault 69 2 place
expression_fault (ExprFault.Kind place) = SceneFault 69 3 place
expression_fault (ExprFault.ZeroDivisor place) = SceneFault 69 4 place
expression_fault (ExprFault.Range place) = SceneFault 69 5 place
expression_fault ExprFault.NoMemory = NoMemory

-- where the directives stop: their own faults are under the letter D, and an error of the scene's maker under U
abbrev pub stop_fault : Stop → Fault
stop_fault (Stop.Lex fault) = lex_fault fault
stop_fault (Stop.Expr fault) = expression_fault fault
stop_fault (Stop.Directive kind place) = SceneFault 68 kind place
stop_fault (Stop.Absent name place) = Absent name
stop_fault Stop.TextFault = TextFault
stop_fault (Stop.UserError text place) = SceneFault 85 6 place
stop_fault (Stop.Limit which place) = Limit which place
stop_fault Stop.NoMemory = NoMemory

-- the text of an error of the scene's maker
abbrev pub error_text : Stop → List ℕ
error_text (Stop.UserError text place) = text
error_text stop = []

-- a fault of the items, under the letter P
abbrev pub parse_fault : ParseFault → Fault
parse_fault (ParseFault.Expected place kind) = SceneFault 80 1 place
parse_fault (ParseFault.OutOfProfile place word) = SceneFault 80 2 place
parse_fault (ParseFault.ValueRange place) = SceneFault 80 3 place
parse_fault (ParseFault.Xform place fault) = SceneFault 80 4 place
parse_fault (ParseFault.Limit which place) = Limit which place
parse_fault ParseFault.NoMemory = NoMemory

-- a failing storage
abbrev pub hold_fault : HoldFail → Fault
hold_fault HoldFail.Failed = ShelfFault
hold_fault HoldFail.NoMemory = NoMemory

-- the exit status
abbrev pub status_of : Fault → ℕ
status_of Done = 0
status_of (OptionFault kind place) = 1
status_of (SceneFault letter kind place) = 2
status_of (Limit which place) = 3
status_of (Absent name) = 4
status_of TextFault = 5
status_of ShelfFault = 7
status_of MessageFault = 8
status_of NoMemory = 9
