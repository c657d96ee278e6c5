-- A part comes to one outcome at most.
use Rattle.std.proofs.Common.{ℕ, ◌≡◌, ◌<◌, ◌≤◌, ◌∙◌, subst, sym, refl, true, false, MatchBool, Result, Ok, Err, arith}
use Rattle.scene_expr.specs.Then.{IsThen, IsOne}
use Rattle.directive_machine.specs.declared.part.Part.{Part}
use Rattle.directive_machine.specs.Moves.{Action}
use Rattle.directive_machine.specs.Moves.{Next}
use Rattle.directive_machine.specs.State.{Stopped, Begun}
use Rattle.directive_machine.specs.Course.{Given, Course, After, Came, Halted, Outcome, course, halted_by, after}
use Rattle.directive_machine.specs.Ways.{begun_at, IsSettled}
use Rattle.directive_machine.specs.Expands.{Runs, Expands}
use Rattle.directive_machine.proofs.Stacks.{Follows}

abbrev pub OneSettled : Given → Type 0
OneSettled g = (part : Part) (a : After) → IsOne (IsSettled g part a)

abbrev pub GoesBehind : Given → Part → ℕ → After → Outcome → Type 0
GoesBehind g part behind a r = MatchBool a.broken (r ≡ Ok a) (Runs g part behind a.course r)

abbrev pub RunsBy : Given → Part → Course → Action → Outcome → Type 0
RunsBy g part w (Action.Step next) r = Runs g part next w r
RunsBy g part w Action.Break r = r ≡ Ok (after w true)
RunsBy g part w (Action.Open inner behind) r = IsThen After After Halted (Expands g inner inner.at w) (GoesBehind g part behind) r

-- what a run comes to by what its first token begins
abbrev pub RunsOn : Given → Part → Course → Result Begun Stopped → Outcome → Type 0
RunsOn g part w (Err f) r = r ≡ Err (halted_by w.sources f)
RunsOn g part w (Ok b) r = RunsBy g part (course b.state w.sources) b.action r

pub run_on : (g : Given) (part : Part) (at : ℕ) (w : Course) (b : Result Begun Stopped) (r : Outcome) → at < part.end → begun_at w.sources part at w.state ≡ b → Runs g part at w r → RunsOn g part w b r
run_on g part at w b r within is (Runs.ends _ _ _ past) = absurd (omega (arith, within, past))
run_on g part at w b r within is (Runs.fault _ _ _ f _ was) = subst (λ b. RunsOn g part w b r) (sym was ∙ is) refl
run_on g part at w b r within is (Runs.step _ _ next _ s _ _ was rest) = subst (λ b. RunsOn g part w b r) (sym was ∙ is) rest
run_on g part at w b r within is (Runs.breaks _ _ _ s _ was) = subst (λ b. RunsOn g part w b r) (sym was ∙ is) refl
run_on g part at w b r within is (Runs.inside_fault _ _ behind inner _ s f _ was run) = subst (λ b. RunsOn g part w b r) (sym was ∙ is) (IsThen.fault f run)
run_on g part at w b r within is (Runs.inside_broken _ _ behind inner _ w' s _ was run) = subst (λ b. RunsOn g part w b r) (sym was ∙ is) (IsThen.found (after w' true) r run refl)
run_on g part at w b r within is (Runs.inside _ _ behind inner _ w' s _ _ was run rest) = subst (λ b. RunsOn g part w b r) (sym was ∙ is) (IsThen.found (after w' false) r run rest)

pub run_over : (g : Given) (part : Part) (at : ℕ) (w : Course) (r : Outcome) → part.end ≤ at → Runs g part at w r → r ≡ Ok (after w false)
run_over g part at w r past (Runs.ends _ _ _ _) = refl
run_over g part at w r past (Runs.fault _ _ _ f within was) = absurd (omega (arith, within, past))
run_over g part at w r past (Runs.step _ _ next _ s _ within was rest) = absurd (omega (arith, within, past))
run_over g part at w r past (Runs.breaks _ _ _ s within was) = absurd (omega (arith, within, past))
run_over g part at w r past (Runs.inside_fault _ _ behind inner _ s f within was run) = absurd (omega (arith, within, past))
run_over g part at w r past (Runs.inside_broken _ _ behind inner _ w' s within was run) = absurd (omega (arith, within, past))
run_over g part at w r past (Runs.inside _ _ behind inner _ w' s _ within was run rest) = absurd (omega (arith, within, past))

abbrev pub SettlesBy : Given → Course → Next → Outcome → Type 0
SettlesBy g w (Next.Done broken) r = r ≡ Ok (after w broken)
SettlesBy g w (Next.Further next) r = Expands g next next.at w r

-- what a part comes to by what is made of its run
abbrev pub SettlesOn : Given → Result Came Halted → Outcome → Type 0
SettlesOn g (Err f) r = r ≡ Err f
SettlesOn g (Ok found) r = SettlesBy g found.course found.next r

pub settles_on : (g : Given) → OneSettled g → (part : Part) (a : After) (b : Result Came Halted) (r : Outcome) → IsSettled g part a b → Follows g part a r → SettlesOn g b r
settles_on g one part a b r is (Follows.refused f was) = subst (λ b. SettlesOn g b r) (one part a _ _ was is) refl
settles_on g one part a b r is (Follows.done broken w was) = subst (λ b. SettlesOn g b r) (one part a _ _ was is) refl
settles_on g one part a b r is (Follows.further next w _ was rest) = subst (λ b. SettlesOn g b r) (one part a _ _ was is) rest

pub expands_on : (g : Given) (part : Part) (at : ℕ) (w : Course) (r : Outcome) → Expands g part at w r → IsThen After After Halted (Runs g part at w) (Follows g part) r
expands_on g part at w r (Expands.run_fault _ _ _ f run) = IsThen.fault f run
expands_on g part at w r (Expands.refused _ _ _ a f run is) = IsThen.found a r run (Follows.refused f is)
expands_on g part at w r (Expands.done _ _ _ a broken w' run is) = IsThen.found a r run (Follows.done broken w' is)
expands_on g part at w r (Expands.further _ next _ _ a w' _ run is rest) = IsThen.found a r run (Follows.further next w' r is rest)

-- where a first part has one outcome, so has what follows from it
first_fault : {A : Type 0} {first : Result A Halted → Type 0} {rest : A → Outcome → Type 0} (f : Halted) (r' : Outcome) → ((o : Result A Halted) → first o → Err f ≡ o) → IsThen A After Halted first rest r' → Err f ≡ r'
first_fault f r' one (IsThen.fault g q) = let same : Err f ≡ Err g = one (Err g) q in cc same
first_fault f r' one (IsThen.found a _ q y) = absurd (cc (one (Ok a) q))

first_found : {A : Type 0} {first : Result A Halted → Type 0} {rest : A → Outcome → Type 0} (a : A) (r' : Outcome) → ((o : Result A Halted) → first o → Ok a ≡ o) → IsThen A After Halted first rest r' → rest a r'
first_found a r' one (IsThen.fault g q) = absurd (cc (one (Err g) q))
first_found {rest = rest} a r' one (IsThen.found b _ q y) = let same : b ≡ a = cc (one (Ok b) q) in subst (λ c. rest c r') same y

mutual
  pub one_run : (g : Given) → OneSettled g → (part : Part) (at : ℕ) (w : Course) (r r' : Outcome) → Runs g part at w r → Runs g part at w r' → r ≡ r'
  one_run g one part at w r r' (Runs.ends _ _ _ past) other = sym (run_over g part at w r' past other)
  one_run g one part at w r r' (Runs.fault _ _ _ f within is) other = sym (run_on g part at w _ r' within is other)
  one_run g one part at w r r' (Runs.step _ _ next _ s _ within is rest) other = one_run g one part next (course s w.sources) r r' rest (run_on g part at w _ r' within is other)
  one_run g one part at w r r' (Runs.breaks _ _ _ s within is) other = sym (run_on g part at w _ r' within is other)
  one_run g one part at w r r' (Runs.inside_fault _ _ behind inner _ s f within is run) other = first_fault f r' (λ o q. one_part g one inner inner.at (course s w.sources) (Err f) o run q) (run_on g part at w _ r' within is other)
  one_run g one part at w r r' (Runs.inside_broken _ _ behind inner _ w' s within is run) other = sym (first_found (after w' true) r' (λ o q. one_part g one inner inner.at (course s w.sources) (Ok (after w' true)) o run q) (run_on g part at w _ r' within is other))
  one_run g one part at w r r' (Runs.inside _ _ behind inner _ w' s _ within is run rest) other = one_run g one part behind w' r r' rest (first_found (after w' false) r' (λ o q. one_part g one inner inner.at (course s w.sources) (Ok (after w' false)) o run q) (run_on g part at w _ r' within is other))

  pub one_part : (g : Given) → OneSettled g → (part : Part) (at : ℕ) (w : Course) (r r' : Outcome) → Expands g part at w r → Expands g part at w r' → r ≡ r'
  one_part g one part at w r r' (Expands.run_fault _ _ _ f run) other = first_fault f r' (λ o q. one_run g one part at w (Err f) o run q) (expands_on g part at w r' other)
  one_part g one part at w r r' (Expands.refused _ _ _ a f run is) other = sym (settles_on g one part a _ r' is (first_found a r' (λ o q. one_run g one part at w (Ok a) o run q) (expands_on g part at w r' other)))
  one_part g one part at w r r' (Expands.done _ _ _ a broken w' run is) other = sym (settles_on g one part a _ r' is (first_found a r' (λ o q. one_run g one part at w (Ok a) o run q) (expands_on g part at w r' other)))
  one_part g one part at w r r' (Expands.further _ next _ _ a w' _ run is rest) other = one_part g one next next.at w' r r' rest (settles_on g one part a _ r' is (first_found a r' (λ o q. one_run g one part at w (Ok a) o run q) (expands_on g part at w r' other)))
