-- Tables as scopes.
use Rattle.std.proofs.Common.{arith, subst, set, get_or, ℕ, ◌<◌, ◌≡◌, sym, ap, ◌∙◌, List, [], length, Some, nat_eq, map}
use Rattle.std.specs.Prelude.{slice_get, Bool, Option, None, is_some, refl, ◌∷◌, if◌then◌else◌}
use Rattle.std.specs.Option.{option_map, unwrap_or}
use Rattle.std.proofs.lemmas.Option.{slice_get-map, slice_get-get_or}
use Rattle.scope_tables.specs.declared.binding.Binding.{Binding}
use Rattle.indexmap.specs.IndexMap.{insert_entry, swap_remove_entry}
use Rattle.scope_tables.specs.declared.names.Home.{Home}
use Rattle.scope_tables.specs.Names.{Scope, scope_at, held, innermost, is_reference_by, is_reference_in, is_reference, at_home, home, declared_home, bound_at, removed_home}

-- a table stands for the scope at its place
pub scope_is : {T : Type 0} (f : T → Scope) (items : List T) (scopes : List Scope) (k : ℕ) (m : T) → map f items ≡ scopes → k < length items → m ≡ get_or items k m → slice_get scopes k ≡ Some (f m)
scope_is f items scopes k m is within there =
    ap (λ s. slice_get s k) (sym is) ∙ slice_get-map f items k ∙ ap (option_map f) (slice_get-get_or items k m within ∙ ap Some (sym there))

pub bound_is : (view scopes : List Scope) (index name : ℕ) (b : Binding) (old new : Scope) → view ≡ scopes → slice_get scopes index ≡ Some old → new ≡ insert_entry nat_eq old name b → set view index new ≡ bound_at scopes index name b
bound_is view scopes index name b old new is there added =
    let kept : scope_at scopes index ≡ old = ap (λ found. unwrap_or found []) there in
    ap (λ v. set v index new) is ∙ ap (set scopes index) (added ∙ ap (λ s. insert_entry nat_eq s name b) (sym kept))

pub removed_is : (view scopes : List Scope) (index name : ℕ) (old new : Scope) → view ≡ scopes → slice_get scopes index ≡ Some old → new ≡ swap_remove_entry (nat_eq name) old → set view index new ≡ removed_home scopes (Some index) name
removed_is view scopes index name old new is there gone =
    let kept : scope_at scopes index ≡ old = ap (λ found. unwrap_or found []) there in
    ap (λ v. set v index new) is ∙ ap (set scopes index) (gone ∙ ap (swap_remove_entry (nat_eq name)) (sym kept))

-- where a declared name stands, by what the innermost scope holds and whether look-up first finds a reference
abbrev pub declared_by : Option Binding → List Scope → ℕ → ℕ → Bool → Home
declared_by None scopes name last refers = if refers then home scopes name else at_home None name
declared_by (Some (Binding.Reference other)) scopes name last refers = home scopes name
declared_by (Some b) scopes name last refers = at_home (Some last) name

by_held : (scopes : List Scope) (name last : ℕ) (b : Option Binding) (outer : Bool) → (if is_reference_by b outer then home scopes name else (if is_some b then at_home (Some last) name else at_home None name)) ≡ declared_by b scopes name last (is_reference_by b outer)
by_held scopes name last None outer = refl
by_held scopes name last (Some (Binding.Value value)) outer = refl
by_held scopes name last (Some (Binding.Block block)) outer = refl
by_held scopes name last (Some (Binding.Macro called)) outer = refl
by_held scopes name last (Some (Binding.Reference other)) outer = refl

pub by_innermost : (scopes : List Scope) (name : ℕ) → declared_home scopes name ≡ declared_by (held scopes (innermost scopes) name) scopes name (innermost scopes) (is_reference scopes name)
by_innermost [] name = refl
by_innermost (scope ∷ scopes) name =
    let last : innermost (scope ∷ scopes) ≡ length scopes = omega arith in
    subst (λ k. (if is_reference (scope ∷ scopes) name then home (scope ∷ scopes) name else (if is_some (held (scope ∷ scopes) k name) then at_home (Some k) name else at_home None name)) ≡ declared_by (held (scope ∷ scopes) k name) (scope ∷ scopes) name k (is_reference (scope ∷ scopes) name))
    (sym last) (by_held (scope ∷ scopes) name (length scopes) (held (scope ∷ scopes) (length scopes) name) (is_reference_in (scope ∷ scopes) (length scopes) name))
