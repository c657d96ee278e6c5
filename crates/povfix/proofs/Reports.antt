-- What is reported where a fault has a line of its own.
use Rattle.std.proofs.Common.{◌≡◌, ◌⊎◌, ◌≤◌, ℕ, List, [], ◌++◌, Option, Some, None, inl, inr, sym, ap, ◌∙◌, subst}
use Rattle.shelf.specs.Causes.{Rose}
use Rattle.shelf.specs.Stream.{with_bytes, GrewByLess}
use Rattle.povfix.specs.declared.ending.Report.{Report}
use Rattle.povfix.specs.declared.outcome.Fault.{Fault}
use Rattle.povfix.specs.declared.outcome.Fault.TheVariants.{NoMemory}
use Rattle.povfix.specs.Lines.{line_left, line_of, messages_left, IsPlaced, IsReported, Says}
use Rattle.povfix.proofs.Saying.{says_behind, says_less}

pub report_says : (name text : List ℕ) (before now : Option (List ℕ)) (faults_before faults_now : ℕ) (fault reported : Fault) → IsReported before now faults_before faults_now (line_of name text fault) fault reported → Says before now faults_before faults_now (line_of name text reported)
report_says name text before now faults_before faults_now fault reported (inl same) = rw same.0 same.1
report_says name text before now faults_before faults_now fault reported (inr none) = rw none.0 none.1

pub reported_fault : (name text : List ℕ) (before now : Option (List ℕ)) (faults_before faults_now : ℕ) (fault reported : Fault) → IsPlaced fault → IsReported before now faults_before faults_now (line_of name text fault) fault reported → (reported ≡ fault) ⊎ ((reported ≡ NoMemory) × IsPlaced fault)
reported_fault name text before now faults_before faults_now fault reported placed (inl same) = inl same.0
reported_fault name text before now faults_before faults_now fault reported placed (inr none) = inr (none.0, placed)

-- ---- the messages that are left, and the line behind them

pub report_left : (left : Option Report) (report : Report) (before mid now : Option (List ℕ)) (fb fm fn : ℕ) (fault : Fault) (name text bytes : List ℕ) → left ≡ Some report → mid ≡ with_bytes before bytes → bytes ≡ report.messages.items → fb ≤ fm → name ≡ report.name → text ≡ report.text → Says mid now fm fn (line_of name text fault) → Says before now fb fn (messages_left left ++ line_left left fault)
report_left left report before mid now fb fm fn fault name text bytes is written is_bytes later is_name is_text says =
    subst (λ l. Says before now fb fn (messages_left l ++ line_left l fault)) (sym is)
    (says_behind before mid now fb fm fn report.messages.items (line_of report.name report.text fault) (written ∙ ap (with_bytes before) is_bytes) later
    (subst (λ t. Says mid now fm fn (line_of report.name t fault)) is_text (subst (λ n. Says mid now fm fn (line_of n text fault)) is_name says)))

pub report_part : (left : Option Report) (report : Report) (before now : Option (List ℕ)) (fb fn : ℕ) (fault : Fault) (bytes : List ℕ) → left ≡ Some report → Rose fb fn → bytes ≡ report.messages.items → GrewByLess before now bytes → Says before now fb fn (messages_left left ++ line_left left fault)
report_part left report before now fb fn fault bytes is rose is_bytes part =
    subst (λ l. Says before now fb fn (messages_left l ++ line_left l fault)) (sym is)
    (says_less before now fb fn report.messages.items (line_of report.name report.text fault) rose (subst (GrewByLess before now) is_bytes part))

pub report_none : (left : Option Report) (before now : Option (List ℕ)) (fb fn : ℕ) (fault : Fault) (name text : List ℕ) → left ≡ None → name ≡ [] → text ≡ [] → Says before now fb fn (line_of name text fault) → Says before now fb fn (messages_left left ++ line_left left fault)
report_none left before now fb fn fault name text is is_name is_text says =
    subst (λ l. Says before now fb fn (messages_left l ++ line_left l fault)) (sym is)
    (subst (λ t. Says before now fb fn (line_of [] t fault)) is_text (subst (λ n. Says before now fb fn (line_of n text fault)) is_name says))
