-- Names on a stack of scopes, the outermost first. A name is told by its number among the words.
use Rattle.std.specs.Prelude.{ℕ, zero, suc, ◌-◌, nat_eq, Bool, true, false, List, [], ◌∷◌, ◌++◌, length, take, slice_get, slice_set, Option, Some, None, is_some, if◌then◌else◌}
use Rattle.std.specs.Map.{lookup}
use Rattle.std.specs.Option.{unwrap_or}
use Rattle.indexmap.specs.IndexMap.{insert_entry, swap_remove_entry}
use Rattle.scope_tables.specs.declared.binding.Binding.{Binding}
use Rattle.scope_tables.specs.declared.names.Home.{Home}

-- the bindings of one scope
abbrev pub Scope : Type 0
Scope = List (ℕ × Binding)

abbrev pub scope_at : List Scope → ℕ → Scope
scope_at scopes index = unwrap_or (slice_get scopes index) []

abbrev pub held : List Scope → ℕ → ℕ → Option Binding
held scopes index name = lookup (nat_eq name) (scope_at scopes index)

abbrev pub innermost : List Scope → ℕ
innermost scopes = length scopes - 1

abbrev pub found_by : Option Binding → ℕ → (ℕ → Option Binding) → Option Binding
found_by None name outer = outer name
found_by (Some (Binding.Reference other)) name outer = outer other
found_by (Some b) name outer = Some b

-- what a name is bound to in the outermost so many scopes: the innermost of them that holds it decides, and a
-- reference stands for its name in the scopes outside of it
abbrev pub found_in : List Scope → ℕ → ℕ → Option Binding
found_in scopes zero name = None
found_in scopes (suc count) name = found_by (held scopes count name) name (found_in scopes count)

abbrev pub found : List Scope → ℕ → Option Binding
found scopes name = found_in scopes (length scopes) name

-- where the binding stands that look-up finds, and under which name
abbrev pub at_home : Option ℕ → ℕ → Home
at_home scope name = record { scope = scope; name = name }

abbrev pub home_by : Option Binding → ℕ → ℕ → (ℕ → Home) → Home
home_by None index name outer = outer name
home_by (Some (Binding.Reference other)) index name outer = outer other
home_by (Some b) index name outer = at_home (Some index) name

abbrev pub home_in : List Scope → ℕ → ℕ → Home
home_in scopes zero name = at_home None name
home_in scopes (suc count) name = home_by (held scopes count name) count name (home_in scopes count)

abbrev pub home : List Scope → ℕ → Home
home scopes name = home_in scopes (length scopes) name

abbrev pub is_reference_by : Option Binding → Bool → Bool
is_reference_by None outer = outer
is_reference_by (Some (Binding.Reference other)) outer = true
is_reference_by (Some b) outer = false

-- whether look-up first finds a reference
abbrev pub is_reference_in : List Scope → ℕ → ℕ → Bool
is_reference_in scopes zero name = false
is_reference_in scopes (suc count) name = is_reference_by (held scopes count name) (is_reference_in scopes count name)

abbrev pub is_reference : List Scope → ℕ → Bool
is_reference scopes name = is_reference_in scopes (length scopes) name

-- a declared name that the innermost scope doesn't hold: what a reference stands for, else the global one's
abbrev pub outer_home : List Scope → ℕ → Home
outer_home scopes name = if is_reference scopes name then home scopes name else at_home None name

-- a declared name: what a reference stands for; else the innermost scope's where that holds it; else the global one's
abbrev pub declared_home : List Scope → ℕ → Home
declared_home scopes name =
    if is_reference scopes name then home scopes name
    else (if is_some (held scopes (innermost scopes) name) then at_home (Some (innermost scopes)) name else at_home None name)

abbrev pub bound_at : List Scope → ℕ → ℕ → Binding → List Scope
bound_at scopes index name b = slice_set scopes index (insert_entry nat_eq (scope_at scopes index) name b)

abbrev pub bound_home : List Scope → Home → Binding → List Scope
bound_home scopes place b = bound_at scopes (unwrap_or place.scope 0) place.name b

-- `#declare` and `#macro`
abbrev pub declared : List Scope → ℕ → Binding → List Scope
declared scopes name b = bound_home scopes (declared_home scopes name) b

-- `#local`
abbrev pub bound : List Scope → ℕ → Binding → List Scope
bound scopes name b = bound_at scopes (innermost scopes) name b

abbrev pub removed_home : List Scope → Option ℕ → ℕ → List Scope
removed_home scopes None name = scopes
removed_home scopes (Some index) name = slice_set scopes index (swap_remove_entry (nat_eq name) (scope_at scopes index))

-- `#undef`
abbrev pub removed : List Scope → ℕ → List Scope
removed scopes name = removed_home scopes (home scopes name).scope (home scopes name).name

-- a scope without names
abbrev pub entered : List Scope → List Scope
entered scopes = scopes ++ [] ∷ []

-- the innermost scope is left
abbrev pub left : List Scope → List Scope
left scopes = take (innermost scopes) scopes
