-- The cases of a `#switch`: which is asked next, and where a body falls through.
use Rattle.std.specs.Prelude.{ℕ, ◌+◌, nat_lt, nat_eq, ℤ, int_le, not, Bool, true, false, ◌&&◌, Option, Some, None, Result, Ok, if◌then◌else◌}
use Rattle.text_structure.specs.declared.mark.Directive.{Directive}
use Rattle.text_structure.specs.declared.closer.Closer.{Closer}
use Rattle.text_structure.specs.Texts.{Text, end_of}
use Rattle.text_structure.specs.Turns.{sign_at, directive_at}
use Rattle.directive_machine.specs.declared.part.Choice.{Choice}
use Rattle.directive_machine.specs.declared.part.Part.{Part}
use Rattle.directive_machine.specs.declared.part.Then.{Then}
use Rattle.directive_machine.specs.Moves.{Next}
use Rattle.directive_machine.specs.State.{State, Stopped, Settled, settled, on_ok, counted, passed, wrong}
use Rattle.directive_machine.specs.Begins.{span, listed, is_closed, piece, is_piece_closed}
use Rattle.directive_machine.specs.Nexts.{done, goes_on, run_next}

abbrev pub choice : Text → ℤ → Option ℕ → ℕ → Choice
choice t value otherwise at = record { value = value; otherwise = otherwise; close = (listed t (at + 3) (end_of t Closer.Branch (at + 2))).end; body = (listed t (at + 3) (end_of t Closer.Branch (at + 2))).end + 1; closed = is_closed t (at + 3) (end_of t Closer.Branch (at + 2)) }

-- the `#`, the word and the `(` of a case are taken
abbrev pub case_taken : Text → ℕ → State → Result State Stopped
case_taken t at s = on_ok (counted t at s) (λ s1. on_ok (counted t (at + 1) s1) (passed 40 t (at + 2) (end_of t Closer.Branch (at + 2))))

abbrev pub asked_case : Text → Part → ℤ → Option ℕ → ℕ → State → Result Settled Stopped
asked_case t part value otherwise at s =
    on_ok (case_taken t at s) (λ s'. goes_on part (span (at + 3) (choice t value otherwise at).close) (choice t value otherwise at).closed (Then.Case (choice t value otherwise at)) s')

abbrev pub asked_range : Text → Part → ℤ → Option ℕ → ℕ → State → Result Settled Stopped
asked_range t part value otherwise at s =
    on_ok (case_taken t at s) (λ s'. goes_on part (piece t (at + 3) (choice t value otherwise at).close) (is_piece_closed t (at + 3) (choice t value otherwise at).close (choice t value otherwise at).closed) (Then.Low (choice t value otherwise at)) s')

-- a body of a switch that begins at a place
abbrev pub fallen_next : Text → Part → ℕ → Bool → Next
fallen_next t part at parted = run_next part (span at (end_of t Closer.Branch at)) (Then.Fall parted)

abbrev pub fallen : Text → Part → ℕ → Bool → State → Result Settled Stopped
fallen t part at parted s = Ok (settled (fallen_next t part at parted) s)

abbrev pub no_case_next : Text → Part → Option ℕ → Next
no_case_next t part None = Next.Done false
no_case_next t part (Some body) = fallen_next t part body true

abbrev pub no_case : Text → Part → Option ℕ → State → Result Settled Stopped
no_case t part otherwise s = Ok (settled (no_case_next t part otherwise) s)

abbrev pub case_by : Option Directive → Text → Part → ℤ → Option ℕ → ℕ → State → Result Settled Stopped
case_by (Some Directive.Case) t part value otherwise at s = asked_case t part value otherwise at s
case_by (Some Directive.Range) t part value otherwise at s = asked_range t part value otherwise at s
case_by other t part value otherwise at s = no_case t part otherwise s

-- the case that is asked next; cases behind an `#else` are asked before it is taken
abbrev pub next_by : Option Directive → Text → Part → ℤ → Option ℕ → ℕ → State → Result Settled Stopped
next_by (Some Directive.Else) t part value otherwise at s =
    case_by (directive_at t.marks (end_of t Closer.Branch (at + 2))) t part value (Some (at + 2)) (end_of t Closer.Branch (at + 2)) s
next_by other t part value otherwise at s = case_by other t part value otherwise at s

abbrev pub next_case : Text → Part → ℤ → Option ℕ → ℕ → State → Result Settled Stopped
next_case t part value otherwise at s = next_by (directive_at t.marks at) t part value otherwise at s

-- behind the head of a case: its body, or the next case
abbrev pub matched_case : Text → Part → Choice → Bool → State → Result Settled Stopped
matched_case t part c held s = if held then fallen t part c.body false s else next_case t part c.value c.otherwise (end_of t Closer.Branch c.body) s

abbrev pub made_low : Text → Part → Choice → ℤ → State → Result Settled Stopped
made_low t part c low s =
    if nat_lt part.end c.close then goes_on part (piece t (part.end + 1) c.close) (is_piece_closed t (part.end + 1) c.close c.closed) (Then.High c low) s else wrong 4 t part.end s

abbrev pub made_high : Text → Part → Choice → ℤ → ℤ → State → Result Settled Stopped
made_high t part c low high s =
    if nat_lt part.end c.close then wrong 4 t part.end s else matched_case t part c (int_le low c.value && int_le c.value high) s

-- a body that was run through to the next case: the head of that is passed over
abbrev pub fallen_case : Text → Part → Bool → ℕ → State → Result Settled Stopped
fallen_case t part parted at s =
    on_ok (counted t at s) (λ s1. on_ok (counted t (at + 1) s1) (λ s2.
    if not (nat_eq (sign_at t.marks (at + 2)) 40) then wrong 4 t (at + 2) s2
    else (if is_closed t (at + 3) (end_of t Closer.Branch (at + 2)) then fallen t part ((listed t (at + 3) (end_of t Closer.Branch (at + 2))).end + 1) parted s2
    else wrong 4 t (end_of t Closer.Branch (at + 2)) s2)))

abbrev pub fallen_else_next : Text → Part → Bool → ℕ → Next
fallen_else_next t part parted at = if parted then Next.Done false else fallen_next t part (at + 2) true

abbrev pub fallen_else : Text → Part → Bool → ℕ → State → Result Settled Stopped
fallen_else t part parted at s = Ok (settled (fallen_else_next t part parted at) s)

abbrev pub fallen_by : Option Directive → Text → Part → Bool → ℕ → State → Result Settled Stopped
fallen_by (Some Directive.Case) t part parted at s = fallen_case t part parted at s
fallen_by (Some Directive.Range) t part parted at s = fallen_case t part parted at s
fallen_by (Some Directive.Else) t part parted at s = fallen_else t part parted at s
fallen_by other t part parted at s = done s
