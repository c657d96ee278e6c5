-- A file that was held and then entered.
use Rattle.std.proofs.Common.{ℕ, ◌≡◌, Bool, List, Result, Ok, Err, sym, subst, inl}
use Rattle.std.specs.Prelude.{MatchResult, IfOk, IfErr}
use Rattle.shelf.specs.Disk.{Contents, Images, SameContents, Tells}
use Rattle.shelf.specs.Moments.{Passes}
use Rattle.state_file.specs.declared.fault.OpenFault.{OpenFault}
use Rattle.state_file.specs.declared.fault.OpenFault.TheVariants.{OtherState, ShelfFault, NoMemory}
use Rattle.state_file.specs.Layout.{Layout, IsOpenBlock, IsAcknowledged}
use Rattle.state_file.specs.Opened.{IsRefused}
use Rattle.state_file.specs.Opening.{IsMade, IsOther, Ran, Read}
use Rattle.state_file.proofs.Looked.{made_of}
use Rattle.state_file.proofs.Making.{ran_quiet, ran_then}

pub match_map : {A E : Type 0} (r : Result A E) (P P' : A → Type 0) (Q Q' : E → Type 0) → ((a : A) → P a → P' a) → ((e : E) → Q e → Q' e)
    → MatchResult r P Q → MatchResult r P' Q'
match_map (Ok a) P P' Q Q' f g m = f a m
match_map (Err e) P P' Q Q' f g m = g e m

pub ok_map : {A E : Type 0} (r : Result A E) (P P' : A → Type 0) → ((a : A) → P a → P' a) → IfOk r P → IfOk r P'
ok_map (Ok a) P P' f m = f a m
ok_map (Err e) P P' f m = m

pub err_map : {A E : Type 0} (r : Result A E) (Q Q' : E → Type 0) → ((e : E) → Q e → Q' e) → IfErr r Q → IfErr r Q'
err_map (Ok a) Q Q' g m = m
err_map (Err e) Q Q' g m = g e m

pub held_ran : {S : Type 0} (moment : S → ℕ) (images : S → Images) (name : List ℕ) (l : Layout) (old new : S)
    → Passes (moment old) (moment new) (images old) (images new) → SameContents (images old (moment old)) (images new (moment new))
    → Ran moment images name (IsMade l (images old (moment old) name)) old new
held_ran moment images name l old new p same =
    ran_quiet moment images name (IsMade l (images old (moment old) name)) old new p same (λ c i. inl i)

pub held_kept : {S : Type 0} (moment : S → ℕ) (images : S → Images) (name : List ℕ) (l : Layout) (b : ℕ) (old new : S)
    → Passes (moment old) (moment new) (images old) (images new) → SameContents (images old (moment old)) (images new (moment new))
    → ((c : List ℕ) → images old (moment old) name c → IsOpenBlock l b c) → Ran moment images name (IsOpenBlock l b) old new
held_kept moment images name l b old new p same each =
    ran_quiet moment images name (IsOpenBlock l b) old new p same each

pub through_ran : {S : Type 0} (moment : S → ℕ) (images : S → Images) (name name' : List ℕ) (l l' : Layout) (old half new : S)
    → name' ≡ name → l' ≡ l
    → Passes (moment old) (moment half) (images old) (images half) → SameContents (images old (moment old)) (images half (moment half))
    → Ran moment images name' (IsMade l' (images half (moment half) name')) half new
    → Ran moment images name (IsMade l (images old (moment old) name)) old new
through_ran {S} moment images name name' l l' old half new e el p same r =
    ran_then moment images name name' (IsMade l (images old (moment old) name)) (IsMade l (images half (moment half) name')) old half new e
    (λ c m. made_of l (images half (moment half) name') (images old (moment old) name)
    (λ d i. same name d (subst (λ n. images half (moment half) n d) e i)) c m)
    (held_ran moment images name l old half p same)
    (subst (λ x. Ran moment images name' (IsMade x (images half (moment half) name')) half new) el r)

pub through_kept : {S : Type 0} (moment : S → ℕ) (images : S → Images) (name name' : List ℕ) (l l' : Layout) (b : ℕ) (old half new : S)
    → name' ≡ name → l' ≡ l
    → Passes (moment old) (moment half) (images old) (images half) → SameContents (images old (moment old)) (images half (moment half))
    → ((c : List ℕ) → images old (moment old) name c → IsOpenBlock l b c)
    → Ran moment images name' (IsOpenBlock l' b) half new → Ran moment images name (IsOpenBlock l b) old new
through_kept {S} moment images name name' l l' b old half new e el p same each r =
    ran_then moment images name name' (IsOpenBlock l b) (IsOpenBlock l b) old half new e (λ c o. o)
    (held_kept moment images name l b old half p same each)
    (subst (λ x. Ran moment images name' (IsOpenBlock x b) half new) el r)

pub through_known : (l l' : Layout) (b : ℕ) (name name' : List ℕ) (holds holds' images images' : Contents) → name' ≡ name → l' ≡ l
    → Tells holds holds' → SameContents images images'
    → IsAcknowledged l b (holds name) (images name) → IsAcknowledged l' b (holds' name') (images' name')
through_known l l' b name name' holds holds' images images' e el tells same a =
    let w = tells name a.seen a.told in
    record {
      seen = w.0;
      told = subst (λ n. holds' n w.0) (sym e) w.1;
      each = λ c i. subst (λ x. IsOpenBlock x b c) (sym el) (a.each c (same name c (subst (λ n. images' n c) e i)));
    }

pub through_read : (P : List ℕ → Type 0) (name name' : List ℕ) (holds holds' : Contents) → name' ≡ name
    → Tells holds holds' → SameContents holds holds' → Read (holds' name') P → Read (holds name) P
through_read P name name' holds holds' e tells same r = λ c h.
    let w = tells name c h in
    let v = r w.0 (subst (λ n. holds' n w.0) (sym e) w.1) in
    (v.0, same name v.0 (subst (λ n. holds' n v.0) e v.1), v.2)

pub through_refused : (l l' : Layout) (resume : Bool) (name name' : List ℕ) (holds holds' : Contents) (fault : OpenFault) → name' ≡ name → l' ≡ l
    → Tells holds holds' → SameContents holds holds' → IsRefused l' resume (holds' name') fault → IsRefused l resume (holds name) fault
through_refused l l' resume name name' holds holds' (OtherState place kept) e el tells same r = (
  r.0,
  through_read (λ c. IsOther l c place kept) name name' holds holds' e tells same
      (subst (λ x. Read (holds' name') (λ c. IsOther x c place kept)) el r.1),
)
through_refused l l' resume name name' holds holds' ShelfFault e el tells same r = tt
through_refused l l' resume name name' holds holds' NoMemory e el tells same r = tt

pub through_made : (l l' : Layout) (half old : List ℕ → Type 0) → l' ≡ l → ((e : List ℕ) → half e → old e) → (d : List ℕ)
    → IsMade l' half d → IsMade l old d
through_made l l' half old el sub d m = made_of l half old sub d (subst (λ x. IsMade x half d) el m)

pub err_of : {A E : Type 0} (r : Result A E) (P : A → Type 0) (Q Q' : E → Type 0) → ((e : E) → Q e → Q' e) → MatchResult r P Q → IfErr r Q'
err_of (Ok a) P Q Q' g m = tt
err_of (Err e) P Q Q' g m = g e m
