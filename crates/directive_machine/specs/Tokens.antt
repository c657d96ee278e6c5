-- What the token at a place begins.
use Rattle.std.specs.Prelude.{ℕ, ◌+◌, nat_eq, true, false, slice_get, Option, Some, None, Result, Ok, if◌then◌else◌}
use Rattle.text_structure.specs.declared.mark.Directive.{Directive}
use Rattle.text_structure.specs.declared.mark.Known.{Known}
use Rattle.text_structure.specs.declared.mark.Mark.{Mark}
use Rattle.text_structure.specs.Texts.{Text}
use Rattle.text_structure.specs.Turns.{directive_at}
use Rattle.scope_tables.specs.Names.{found}
use Rattle.directive_machine.specs.declared.part.Part.{Part}
use Rattle.directive_machine.specs.Moves.{Action}
use Rattle.directive_machine.specs.State.{State, Stopped, Begun, begun, on_ok, counted, wrong}
use Rattle.directive_machine.specs.Begins.{begun_if, begun_ifdef, begun_while, begun_for, begun_switch}
use Rattle.directive_machine.specs.Declares.{begun_declare, begun_undef, begun_message, begun_include, begun_version, begun_macro}
use Rattle.directive_machine.specs.Words.{handed_at, begun_defined, begun_bound}

-- `#default` is handed out
abbrev pub begun_default : Text → Part → ℕ → State → Result Begun Stopped
begun_default t part at s = on_ok (handed_at t part at s) (λ b. on_ok (counted t (at + 1) b.state) (handed_at t part (at + 1)))

abbrev pub begun_break : Text → ℕ → State → Result Begun Stopped
begun_break t at s = on_ok (counted t (at + 1) s) (λ s'. Ok (begun Action.Break s'))

-- a directive by its word; one that divides or ends a body stands in no part
abbrev pub begun_word : Directive → Text → Part → ℕ → State → Result Begun Stopped
begun_word Directive.If t part at s = begun_if t part at s
begun_word Directive.Ifdef t part at s = begun_ifdef t part true at s
begun_word Directive.Ifndef t part at s = begun_ifdef t part false at s
begun_word Directive.While t part at s = begun_while t part at s
begun_word Directive.For t part at s = begun_for t part at s
begun_word Directive.Switch t part at s = begun_switch t part at s
begun_word Directive.Macro t part at s = begun_macro t part at s
begun_word Directive.Declare t part at s = begun_declare t part false at s
begun_word Directive.Local t part at s = begun_declare t part true at s
begun_word Directive.Undef t part at s = begun_undef t part at s
begun_word Directive.Include t part at s = begun_include t part at s
begun_word Directive.Error t part at s = begun_message t part true at s
begun_word Directive.Message t part at s = begun_message t part false at s
begun_word Directive.Version t part at s = begun_version t part at s
begun_word Directive.Default t part at s = begun_default t part at s
begun_word Directive.Break t part at s = begun_break t at s
begun_word other t part at s = wrong 3 t at s

abbrev pub begun_directive : Option Directive → Text → Part → ℕ → State → Result Begun Stopped
begun_directive None t part at s = wrong 1 t at s
begun_directive (Some directive) t part at s = begun_word directive t part at s

abbrev pub begun_mark : Option Mark → Text → Part → ℕ → State → Result Begun Stopped
begun_mark (Some (Mark.Sign code)) t part at s = if nat_eq code 35 then begun_directive (directive_at t.marks at) t part at s else handed_at t part at s
begun_mark (Some (Mark.Name name)) t part at s = begun_bound (found s.scopes name) t part at (slice_get t.tokens at) s
begun_mark (Some (Mark.Known Known.Defined)) t part at s = begun_defined t part at s
begun_mark other t part at s = handed_at t part at s

-- a token is counted, and then it begins what it begins
abbrev pub begun_in : Text → Part → ℕ → State → Result Begun Stopped
begun_in t part at s = on_ok (counted t at s) (begun_mark (slice_get t.marks at) t part at)
