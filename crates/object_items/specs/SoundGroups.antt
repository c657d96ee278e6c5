-- An object that is read is sound: groups, holders, and all objects by their words.
use Rattle.std.specs.Prelude.{◌≡◌, ◌≢◌, ℕ, zero, suc, ◌+◌, ◌-◌, ◌≤◌, ◌<◌, Bool, true, false, ◌&&◌, List, [], ◌∷◌, ◌++◌, map, length, if◌then◌else◌, Option, Some, None, Result, Ok, IfOk, refl}
use Rattle.std.specs.List.{list_all}
use Rattle.std.proofs.Common.{subst, sym, ap, ◌∙◌, arith}
use Rattle.std.proofs.lemmas.List.{map-append, append_assoc, append-nil, length-append}
use Rattle.std.proofs.lemmas.List.Elements.{All-nil}
use Rattle.scene_lexer.specs.declared.token.Token.{Token}
use Rattle.scene_expr.specs.declared.value.Settings.{Settings}
use Rattle.scene_model.specs.declared.shape.Op.{Op}
use Rattle.scene_model.specs.declared.shape.Shape.{Shape}
use Rattle.scene_model.specs.Places.{Place, turned, of_parts, greatest, has_some}
use Rattle.item_blocks.specs.declared.fault.ParseFault.{ParseFault}
use Rattle.item_blocks.specs.declared.fault.Wanted.{Wanted}
use Rattle.item_blocks.specs.declared.words.BlockWord.{BlockWord}
use Rattle.item_blocks.specs.declared.words.Word.{Word}
use Rattle.item_blocks.specs.SoundLaws.{kept_then, kept_same, kept_refused}
use Rattle.item_blocks.specs.Tokens.{word_at, Behind}
use Rattle.object_items.specs.declared.object.ObjectDraft.{ObjectDraft}
use Rattle.object_items.specs.declared.object.ObjectWord.{ObjectWord}
use Rattle.object_items.specs.declared.tables.LeafDraft.{LeafDraft}
use Rattle.object_items.specs.Held.{Held, nothing_held, turn_leaf, turned_from, from_on, leaf_number}
use Rattle.object_items.specs.Objects.{is_union, is_difference, object_word, begins_object, row_of, no_parts, joined, group_of, object_seen, Inside, Parts, IsNext, IsInside, IsObjectBy, IsPartBy, IsGroupObject, IsHolder, IsObjectItem}
use Rattle.object_items.specs.Sound.{IsShaped, IsSoundObject, drafted_of}
use Rattle.object_items.specs.SoundItems.{HasTree, IsDrawnIn, kept_row, opened_some, kept_ended, kept_leaf, kept_triangle, kept_mesh}
use Rattle.object_items.specs.SoundObjects.{IsGood, IsToldOf, IsTreeOf, IsDrawnFrom, turned_good, turn_sound}
use Rattle.object_items.specs.SoundPlaces.{as_other, drafted_append, drafted_turned, from_front, map_twice, not_turned, first_part, further_part, greatest_more, all_more}
use Rattle.object_items.specs.SoundTrees.{Told, told_of, told_list, told_shape}
use Rattle.object_items.specs.Statements.{Drawn}
use Rattle.object_items.specs.Trees.{Tree, trees_of, tree_seen}

-- ---- the parts of a group so far

abbrev tree_places : ℕ → Tree → List Place
tree_places object tree = (told_of object tree).places

-- their leaves stand at the places of the parts, which are no deeper than this; where no triangles may stand, each part has a tree
record IsPartsFrom (depths : ℕ) (sheets : Bool) (op : Op) (from : Held) (parts : Parts) : Type 0 where
  good : IsGood parts.held
  new : List LeafDraft
  leaves : parts.held.leaves ≡ from.leaves ++ new
  leaves_before : parts.held.leaves_before ≡ from.leaves_before
  sheets_before : parts.held.sheets_before ≡ from.sheets_before
  places : (object : ℕ) → of_parts op (map (tree_places object) parts.trees) ≡ drafted_of object (leaf_number from) new
  filled : (object : ℕ) → list_all (λ b. b) (map (λ t. (told_of object t).filled) parts.trees) ≡ true
  flat : (object : ℕ) → greatest (map (λ t. (told_of object t).depth) parts.trees) ≤ depths
  some : sheets ≡ false → parts.begun ≡ true → parts.trees ≢ []
  none : parts.begun ≡ false → parts.trees ≡ []

-- a part behind the first of a difference is turned
module _ (depths : ℕ) (sheets : Bool) (op : Op) (from : Held) where
  -- leaves of a part behind those of the parts before
  behind_leaves : (parts : Parts) (p : IsPartsFrom depths sheets op from parts) (more ls : List LeafDraft) → ls ≡ parts.held.leaves ++ more → ls ≡ from.leaves ++ (p.new ++ more)
  behind_leaves parts p more ls is = is ∙ ap (λ l. l ++ more) p.leaves ∙ append_assoc from.leaves p.new more

  next_number : (parts : Parts) (p : IsPartsFrom depths sheets op from parts) → leaf_number parts.held ≡ leaf_number from + length p.new
  next_number parts p = omega (arith, p.leaves_before, ap length p.leaves, length-append from.leaves p.new)

  -- the places of what is new
  both_drafted : (object : ℕ) (parts : Parts) (p : IsPartsFrom depths sheets op from parts) (more : List LeafDraft) → drafted_of object (leaf_number from) (p.new ++ more) ≡ of_parts op (map (tree_places object) parts.trees) ++ drafted_of object (leaf_number parts.held) more
  both_drafted object parts p more =
      drafted_append object (leaf_number from) p.new more
      ∙ ap (λ l. l ++ drafted_of object (leaf_number from + length p.new) more) (sym (p.places object))
      ∙ ap (λ n. of_parts op (map (tree_places object) parts.trees) ++ drafted_of object n more) (sym (next_number parts p))

  -- triangles alone
  no_tree : (parts : Parts) (p : IsPartsFrom depths sheets op from parts) (held : Held) (no_shadow : Bool) → (d : IsDrawnFrom depths parts.held (record { held = held; tree = None; no_shadow = no_shadow })) → (sheets ≡ false → ⊥)
      → IsPartsFrom depths sheets op from (record { held = held; trees = parts.trees; begun = true })
  no_tree parts p held no_shadow d none = record {
    good = d.good;
    new = p.new;
    leaves = d.leaves ∙ ap (λ l. parts.held.leaves ++ l) d.tree ∙ append-nil parts.held.leaves ∙ p.leaves;
    leaves_before = d.leaves_before ∙ p.leaves_before;
    sheets_before = d.sheets_before ∙ p.sheets_before;
    places = p.places;
    filled = p.filled;
    flat = p.flat;
    some = λ flat. absurd (none flat);
    none = λ (is : true ≡ false). absurd (cc is);
  }

  -- a part with a tree, whose leaves are changed or not
  with_tree : (parts : Parts) (p : IsPartsFrom depths sheets op from parts) (held : Held) (tree : Tree) (more : List LeafDraft) → IsGood held → held.leaves ≡ parts.held.leaves ++ more → held.leaves_before ≡ parts.held.leaves_before → held.sheets_before ≡ parts.held.sheets_before
      → ((object : ℕ) → of_parts op (map (tree_places object) (parts.trees ++ tree ∷ [])) ≡ of_parts op (map (tree_places object) parts.trees) ++ drafted_of object (leaf_number parts.held) more)
      → ((object : ℕ) → (told_of object tree).filled ≡ true) → ((object : ℕ) → (told_of object tree).depth ≤ depths)
      → IsPartsFrom depths sheets op from (record { held = held; trees = parts.trees ++ tree ∷ []; begun = true })
  with_tree parts p held tree more good leaves before sheets_before places filled flat = record {
    good = good;
    new = p.new ++ more;
    leaves = behind_leaves parts p more held.leaves leaves;
    leaves_before = before ∙ p.leaves_before;
    sheets_before = sheets_before ∙ p.sheets_before;
    places = λ object. places object ∙ sym (both_drafted object parts p more);
    filled = λ object. ap (list_all (λ b. b)) (map-append (λ t. (told_of object t).filled) parts.trees (tree ∷ [])) ∙ all_more (map (λ t. (told_of object t).filled) parts.trees) (told_of object tree).filled (p.filled object) (filled object);
    flat = λ object. subst (λ l. greatest l ≤ depths) (sym (map-append (λ t. (told_of object t).depth) parts.trees (tree ∷ []))) (greatest_more (map (λ t. (told_of object t).depth) parts.trees) (told_of object tree).depth depths (p.flat object) (flat object));
    some = λ flat begun is. not_empty parts.trees tree is;
    none = λ (is : true ≡ false). absurd (cc is);
  }
    where
      not_empty : (ts : List Tree) (t : Tree) → ts ++ t ∷ [] ≡ [] → ⊥
      not_empty [] t is = absurd (cc is)
      not_empty (x ∷ xs) t is = absurd (cc is)

  -- the places of one part more, the first or a further one
  first_places : (trees : List Tree) (tree : Tree) (object : ℕ) → trees ≡ [] → of_parts op (map (tree_places object) (trees ++ tree ∷ [])) ≡ of_parts op (map (tree_places object) trees) ++ tree_places object tree
  first_places [] tree object none = first_part op (tree_places object tree)
  first_places (t ∷ ts) tree object none = absurd (cc none)

  further_places : (trees : List Tree) (tree : Tree) (object : ℕ) → trees ≢ [] → of_parts op (map (tree_places object) (trees ++ tree ∷ [])) ≡ of_parts op (map (tree_places object) trees) ++ as_other op (tree_places object tree)
  further_places [] tree object some = absurd (some refl)
  further_places (t ∷ ts) tree object some =
      ap (of_parts op) (map-append (tree_places object) (t ∷ ts) (tree ∷ [])) ∙ further_part op (tree_places object t) (map (tree_places object) ts) (tree_places object tree)

  any_places : (trees : List Tree) (tree : Tree) (object : ℕ) → is_difference op ≡ false → of_parts op (map (tree_places object) (trees ++ tree ∷ [])) ≡ of_parts op (map (tree_places object) trees) ++ tree_places object tree
  any_places [] tree object other = first_part op (tree_places object tree)
  any_places (t ∷ ts) tree object other =
      further_places (t ∷ ts) tree object (λ is. absurd (cc is)) ∙ ap (λ b. of_parts op (map (tree_places object) (t ∷ ts)) ++ (if b then map (turned true) (tree_places object tree) else tree_places object tree)) other

  turned_places : (trees : List Tree) (tree : Tree) (object : ℕ) → trees ≢ [] → is_difference op ≡ true → of_parts op (map (tree_places object) (trees ++ tree ∷ [])) ≡ of_parts op (map (tree_places object) trees) ++ map (turned true) (tree_places object tree)
  turned_places trees tree object some difference =
      further_places trees tree object some ∙ ap (λ b. of_parts op (map (tree_places object) trees) ++ (if b then map (turned true) (tree_places object tree) else tree_places object tree)) difference

  -- a part as it is joined
  abbrev IsJoined : Bool → Bool → Parts → Held → Option Tree → Type 0
  IsJoined begun difference parts held tree =
      IsPartsFrom depths sheets op from (record { held = if begun && difference then turned_from (length parts.held.leaves) held else held; trees = parts.trees ++ row_of tree; begun = true })

  plain_part : (parts : Parts) (p : IsPartsFrom depths sheets op from parts) (held : Held) (tree : Tree) (no_shadow : Bool) → (d : IsDrawnFrom depths parts.held (record { held = held; tree = Some tree; no_shadow = no_shadow }))
      → ((object : ℕ) → of_parts op (map (tree_places object) (parts.trees ++ tree ∷ [])) ≡ of_parts op (map (tree_places object) parts.trees) ++ tree_places object tree)
      → IsPartsFrom depths sheets op from (record { held = held; trees = parts.trees ++ tree ∷ []; begun = true })
  plain_part parts p held tree no_shadow d places =
      with_tree parts p held tree d.new d.good d.leaves d.leaves_before d.sheets_before
      (λ object. places object ∙ ap (λ l. of_parts op (map (tree_places object) parts.trees) ++ l) (d.tree.places object)) d.tree.filled d.tree.flat

  turned_part : (parts : Parts) (p : IsPartsFrom depths sheets op from parts) (held : Held) (tree : Tree) (no_shadow : Bool) → (d : IsDrawnFrom depths parts.held (record { held = held; tree = Some tree; no_shadow = no_shadow }))
      → parts.trees ≢ [] → is_difference op ≡ true → IsPartsFrom depths sheets op from (record { held = turned_from (length parts.held.leaves) held; trees = parts.trees ++ tree ∷ []; begun = true })
  turned_part parts p held tree no_shadow d some difference =
      with_tree parts p (turned_from (length parts.held.leaves) held) tree (map turn_leaf d.new) (turned_good parts.held d.new turn_leaf turn_sound held d.good)
      (ap (from_on (length parts.held.leaves) turn_leaf) d.leaves ∙ from_front turn_leaf parts.held.leaves d.new) d.leaves_before d.sheets_before
      (λ object. turned_places parts.trees tree object some difference
      ∙ ap (λ l. of_parts op (map (tree_places object) parts.trees) ++ map (turned true) l) (d.tree.places object)
      ∙ ap (λ l. of_parts op (map (tree_places object) parts.trees) ++ l) (sym (drafted_turned object (leaf_number parts.held) d.new)))
      d.tree.filled d.tree.flat

  joined_by : (begun difference : Bool) (parts : Parts) (p : IsPartsFrom depths sheets op from parts) (held : Held) (tree : Option Tree) (no_shadow : Bool) → parts.begun ≡ begun → is_difference op ≡ difference → (difference ≡ true → sheets ≡ false) → HasTree sheets tree
      → IsDrawnFrom depths parts.held (record { held = held; tree = tree; no_shadow = no_shadow }) → IsJoined begun difference parts held tree
  joined_by true true parts p held None no_shadow is differs flat has d = absurd (has (flat refl) refl)
  joined_by true false parts p held None no_shadow is differs flat has d =
      subst (λ ts. IsPartsFrom depths sheets op from (record { held = held; trees = ts; begun = true })) (sym (append-nil parts.trees)) (no_tree parts p held no_shadow d (λ none. has none refl))
  joined_by false difference parts p held None no_shadow is differs flat has d =
      subst (λ ts. IsPartsFrom depths sheets op from (record { held = held; trees = ts; begun = true })) (sym (append-nil parts.trees)) (no_tree parts p held no_shadow d (λ none. has none refl))
  joined_by true true parts p held (Some tree) no_shadow is differs flat has d = turned_part parts p held tree no_shadow d (p.some (flat refl) is) differs
  joined_by true false parts p held (Some tree) no_shadow is differs flat has d = plain_part parts p held tree no_shadow d (λ object. any_places parts.trees tree object differs)
  joined_by false difference parts p held (Some tree) no_shadow is differs flat has d = plain_part parts p held tree no_shadow d (λ object. first_places parts.trees tree object (p.none is))

-- ---- the group

no_leaves : (object n : ℕ) (leaves : List LeafDraft) → drafted_of object n leaves ≡ [] → leaves ≡ []
no_leaves object n [] is = refl
no_leaves object n (leaf ∷ leaves) is = absurd (cc is)

module _ (depths : ℕ) (sheets : Bool) (op : Op) (from : Held) where
  group_told_of : (held : Held) (tree : Tree) (trees : List Tree) (begun : Bool) → 0 < depths → (p : IsPartsFrom (depths - 1) sheets op from (record { held = held; trees = tree ∷ trees; begun = begun })) → IsToldOf depths (leaf_number from) p.new (Tree.group op (trees_of (tree ∷ trees)) false)
  group_told_of held tree trees begun room p = record {
    places = λ object. not_turned _ ∙ ap (of_parts op) (ap (map (λ told. told.places)) (told_list object (tree ∷ trees)) ∙ map_twice (λ told. told.places) (told_of object) (tree ∷ trees)) ∙ p.places object;
    filled = λ object. ap (λ l. has_some l && list_all (λ b. b) l) (ap (map (λ told. told.filled)) (told_list object (tree ∷ trees)) ∙ map_twice (λ told. told.filled) (told_of object) (tree ∷ trees)) ∙ p.filled object;
    flat = λ object.
        let same : map (λ told. told.depth) (map (told_of object) (tree ∷ trees)) ≡ map (λ t. (told_of object t).depth) (tree ∷ trees) = map_twice (λ told. told.depth) (told_of object) (tree ∷ trees) in
        let most : greatest (map (λ told. told.depth) (map (told_of object) (tree ∷ trees))) ≤ depths - 1 = subst (λ l. greatest l ≤ depths - 1) (sym same) (p.flat object) in
        deeper object (tree ∷ trees) most;
  }
    where
      deeper : (object : ℕ) (ts : List Tree) → greatest (map (λ told. told.depth) (map (told_of object) ts)) ≤ depths - 1 → (told_of object (Tree.group op (trees_of ts) false)).depth ≤ depths
      deeper object ts most =
          let fits : greatest (map (λ told. told.depth) (map (told_of object) ts)) + 1 ≤ depths = omega (arith, most, room) in
          subst (λ l. greatest (map (λ told. told.depth) l) + 1 ≤ depths) (sym (told_list object ts)) fits

  group_from : (held : Held) (trees : List Tree) (begun no_shadow : Bool) → 0 < depths → IsPartsFrom (depths - 1) sheets op from (record { held = held; trees = trees; begun = begun }) → IsDrawnFrom depths from (record { held = held; tree = group_of op trees; no_shadow = no_shadow })
  group_from held [] begun no_shadow room p = record {
    good = p.good;
    new = p.new;
    leaves = p.leaves;
    tree = no_leaves 0 (leaf_number from) p.new (sym (p.places 0));
    leaves_before = p.leaves_before;
    sheets_before = p.sheets_before;
  }
  group_from held (tree ∷ trees) begun no_shadow room p = record {
    good = p.good;
    new = p.new;
    leaves = p.leaves;
    tree = group_told_of held tree trees begun room p;
    leaves_before = p.leaves_before;
    sheets_before = p.sheets_before;
  }

group_tree : (op : Op) (trees : List Tree) → trees ≢ [] → group_of op trees ≢ None
group_tree op [] some is = some refl
group_tree op (tree ∷ trees) some is = absurd (cc is)

difference_flat : (sheets : Bool) (op : Op) → is_difference op ≡ true → (sheets && is_union op) ≡ false
difference_flat sheets Op.Union is = absurd (cc is)
difference_flat sheets Op.Merge is = absurd (cc is)
difference_flat sheets Op.Intersection is = absurd (cc is)
difference_flat true Op.Difference is = refl
difference_flat false Op.Difference is = refl

flat_inside : (sheets : Bool) (op : Op) → sheets ≡ false → (sheets && is_union op) ≡ false
flat_inside true op is = absurd (cc is)
flat_inside false op is = refl

-- ---- words

abbrev is_sheet_word : Option ObjectWord → Bool
is_sheet_word (Some (ObjectWord.Triangle smooth)) = true
is_sheet_word (Some ObjectWord.Mesh) = true
is_sheet_word other = false

-- ---- objects

module _ (tokens : List Token) (set : Settings) where
  abbrev KeepsInside : ℕ → Inside → Type 0
  KeepsInside depths inside = (sheets : Bool) (wanted : Wanted) (held : Held) (at : ℕ) (r : Result (Behind Drawn) ParseFault) → IsGood held → inside sheets wanted held at r → IfOk r (λ b. IsDrawnIn depths sheets held b.value)

  module _ (depths : ℕ) (inside : Inside) (keeps : KeepsInside (depths - 1) inside) where
    next_kept : (sheets : Bool) (op : Op) (from : Held) → (is_difference op ≡ true → sheets ≡ false) → (parts : Parts) (at : ℕ) (r : Result (Behind Parts) ParseFault) → IsPartsFrom (depths - 1) sheets op from parts → IsNext inside sheets op parts at r
        → IfOk r (λ b. IsPartsFrom (depths - 1) sheets op from b.value × (b.value.begun ≡ true))
    next_kept sheets op from flat parts at r p read =
        kept_then (λ b. IsPartsFrom (depths - 1) sheets op from b.value × (b.value.begun ≡ true)) read (λ drawn found is.
        let d : IsDrawnIn (depths - 1) sheets parts.held drawn.value = keeps sheets Wanted.Part parts.held at (Ok drawn) p.good found in
        kept_same (λ q. IsPartsFrom (depths - 1) sheets op from q × (q.begun ≡ true)) (joined op parts drawn.value) drawn.next r
        (joined_by (depths - 1) sheets op from parts.begun (is_difference op) parts p drawn.value.held drawn.value.tree drawn.value.no_shadow refl refl flat d.1 d.0, refl) is)

    parts_begin : (sheets : Bool) (op : Op) (held : Held) → IsGood held → IsPartsFrom (depths - 1) sheets op held (no_parts held)
    parts_begin sheets op held good = record {
      good = good;
      new = [];
      leaves = sym (append-nil held.leaves);
      leaves_before = refl;
      sheets_before = refl;
      places = λ object. none_of op;
      filled = λ object. refl;
      flat = λ object. omega arith;
      some = λ flat (is : false ≡ true). absurd (cc is);
      none = λ is. refl;
    }
      where
        none_of : (op : Op) → of_parts op [] ≡ []
        none_of op = refl

    kept_group : (sheets : Bool) (op : Op) (held : Held) (at : ℕ) (r : Result (Behind Drawn) ParseFault) → IsGood held → IsGroupObject tokens set depths inside sheets op held at r → IfOk r (λ b. IsDrawnIn depths sheets held b.value)
    kept_group sheets op held at r good read =
        kept_then (λ b. IsDrawnIn depths sheets held b.value) read (λ start opens rest.
        kept_then (λ b. IsDrawnIn depths sheets held b.value) rest (λ parts found rest.
        let P : Parts → Type 0 = IsPartsFrom (depths - 1) (sheets && is_union op) op held in
        let Q : Parts → Type 0 = λ q. P q × (q.begun ≡ true) in
        let q : Q parts.value = kept_row P Q (begins_object (sheets && is_union op) tokens) (IsNext inside (sheets && is_union op) op)
        (next_kept (sheets && is_union op) op held (difference_flat sheets op))
        (λ now at r p read. next_kept (sheets && is_union op) op held (difference_flat sheets op) now at r p.0 read)
        (no_parts held) start (Ok parts) (parts_begin (sheets && is_union op) op held good) found in
        kept_ended depths held (group_of op parts.value.trees) tokens set (depths - 1) false sheets false parts.value.held parts.next r
        (λ flat. group_tree op parts.value.trees (q.0.some (flat_inside sheets op flat) q.1))
        (group_from depths (sheets && is_union op) op held parts.value.held parts.value.trees parts.value.begun false (opened_some tokens depths (at + 1) start opens) q.0) rest))

    -- an object may be one brace deeper
    deeper : (from : Held) (drawn : Drawn) → IsDrawnFrom (depths - 1) from drawn → IsDrawnFrom depths from drawn
    deeper from drawn d = record { good = d.good; new = d.new; leaves = d.leaves; tree = deeper_tree drawn.tree d.tree; leaves_before = d.leaves_before; sheets_before = d.sheets_before }
      where
        deeper_tree : (tree : Option Tree) → IsTreeOf (depths - 1) (leaf_number from) d.new tree → IsTreeOf depths (leaf_number from) d.new tree
        deeper_tree None t = t
        deeper_tree (Some tree) t = record { places = t.places; filled = t.filled; flat = λ object. omega (arith, t.flat object) }

    kept_holder : (sheets : Bool) (held : Held) (at : ℕ) (r : Result (Behind Drawn) ParseFault) → IsGood held → IsHolder tokens set depths inside sheets held at r → IfOk r (λ b. IsDrawnIn depths sheets held b.value)
    kept_holder sheets held at r good read =
        kept_then (λ b. IsDrawnIn depths sheets held b.value) read (λ start opens rest.
        kept_then (λ b. IsDrawnIn depths sheets held b.value) rest (λ part found rest.
        let d : IsDrawnIn (depths - 1) sheets held part.value = keeps sheets Wanted.Item held start (Ok part) good found in
        kept_ended depths held part.value.tree tokens set (depths - 1) false sheets part.value.no_shadow part.value.held part.next r d.1 (deeper held part.value d.0) rest))

    kept_object : (sheets : Bool) (word : ObjectWord) (held : Held) (at : ℕ) (r : Result (Behind Drawn) ParseFault) → (sheets ≡ false → is_sheet_word (Some word) ≡ false) → IsGood held → IsObjectBy tokens set depths inside sheets word held at r → IfOk r (λ b. IsDrawnIn depths sheets held b.value)
    kept_object sheets (ObjectWord.Solid word) held at r flat good read = kept_leaf tokens set depths word sheets held at r good read
    kept_object true (ObjectWord.Triangle smooth) held at r flat good read = kept_triangle tokens set depths smooth held at r good read
    kept_object false (ObjectWord.Triangle smooth) held at r flat good read = absurd (cc (flat refl))
    kept_object true ObjectWord.Mesh held at r flat good read = kept_mesh tokens set depths held at r good read
    kept_object false ObjectWord.Mesh held at r flat good read = absurd (cc (flat refl))
    kept_object sheets (ObjectWord.Group op) held at r flat good read = kept_group sheets op held at r good read
    kept_object sheets ObjectWord.Holder held at r flat good read = kept_holder sheets held at r good read

    kept_part : (sheets : Bool) (wanted : Wanted) (word : Option ObjectWord) (held : Held) (at : ℕ) (r : Result (Behind Drawn) ParseFault) → (sheets ≡ false → is_sheet_word word ≡ false) → IsGood held → IsPartBy tokens set depths inside sheets wanted word held at r → IfOk r (λ b. IsDrawnIn depths sheets held b.value)
    kept_part sheets wanted (Some word) held at r flat good read = kept_object sheets word held at r flat good read
    kept_part sheets wanted None held at r flat good is = kept_refused (IsDrawnIn depths sheets held) _ r is

  no_sheet_word : (word : Option Word) → is_sheet_word (object_word word false) ≡ false
  no_sheet_word (Some (Word.Solid word)) = refl
  no_sheet_word (Some Word.Triangle) = refl
  no_sheet_word (Some Word.SmoothTriangle) = refl
  no_sheet_word (Some (Word.Block BlockWord.Mesh)) = refl
  no_sheet_word (Some (Word.Group op)) = refl
  no_sheet_word (Some (Word.Block BlockWord.Object)) = refl
  no_sheet_word other = refl

  flat_word : (sheets : Bool) (word : Option Word) → sheets ≡ false → is_sheet_word (object_word word sheets) ≡ false
  flat_word sheets word is = subst (λ b. is_sheet_word (object_word word b) ≡ false) (sym is) (no_sheet_word word)

  kept_inside : (depths : ℕ) → KeepsInside (depths - 1) (IsInside tokens set depths)
  unfolding IsInside
  kept_inside zero sheets wanted held at r good read = absurd read
  kept_inside (suc depths) sheets wanted held at r good read =
      let e : suc depths - 1 ≡ depths = omega arith in
      subst (λ n. IfOk r (λ b. IsDrawnIn n sheets held b.value)) (sym e)
      (kept_part depths (IsInside tokens set depths) (kept_inside depths) sheets wanted _ held at r (flat_word sheets (word_at tokens at)) good read)

  -- ---- a top-level object

  nothing_good : (leaves sheets : ℕ) → leaves ≤ 65536 → sheets ≤ 131072 → IsGood (nothing_held leaves sheets)
  nothing_good leaves sheets few_leaves few_sheets = record {
    sound = record { things = All-nil _; leaves = All-nil _; sheets = All-nil _; textures = All-nil _ };
    few_leaves = omega (arith, few_leaves);
    few_sheets = omega (arith, few_sheets);
  }

  kept_item : (depths leaves sheets : ℕ) (word : ObjectWord) (at : ℕ) (r : Result (Behind Drawn) ParseFault) → leaves ≤ 65536 → sheets ≤ 131072 → IsObjectItem tokens set depths leaves sheets word at r → IfOk r (λ b. IsDrawnIn depths true (nothing_held leaves sheets) b.value)
  kept_item depths leaves sheets word at r few_leaves few_sheets read =
      kept_object depths (IsInside tokens set depths) (kept_inside depths) true word (nothing_held leaves sheets) at r (λ none. absurd (cc none)) (nothing_good leaves sheets few_leaves few_sheets) read

  shape_sound : (depths leaves sheets : ℕ) (held : Held) (shape : Option Shape) (no_shadow : Bool) → depths ≤ 64 → IsDrawnFrom depths (nothing_held leaves sheets) (record { held = held; tree = tree_seen shape; no_shadow = no_shadow }) → IsShaped held shape
  shape_sound depths leaves sheets held None no_shadow few d = d.leaves ∙ d.tree
  shape_sound depths leaves sheets held (Some shape) no_shadow few d =
      let number : leaf_number (nothing_held leaves sheets) ≡ held.leaves_before = omega (arith, d.leaves_before) in
      record {
        filled = sym (ap (λ (t : Told). t.filled) (told_shape 0 shape)) ∙ d.tree.filled 0;
        flat = subst (λ n. n ≤ 64) (ap (λ (t : Told). t.depth) (told_shape 0 shape)) (omega (arith, few, d.tree.flat 0));
        places = λ object.
            sym (ap (λ (t : Told). t.places) (told_shape object shape)) ∙ d.tree.places object
            ∙ ap (λ n. drafted_of object n d.new) number ∙ ap (drafted_of object held.leaves_before) (sym d.leaves);
      }

  pub object_sound : (depths leaves sheets : ℕ) (word : ObjectWord) (at next : ℕ) (draft : ObjectDraft) → depths ≤ 64 → leaves ≤ 65536 → sheets ≤ 131072
      → IsObjectItem tokens set depths leaves sheets word at (Ok (record { value = object_seen draft; next = next })) → IsSoundObject leaves sheets draft
  object_sound depths leaves sheets word at next draft few few_leaves few_sheets read =
      let d : IsDrawnFrom depths (nothing_held leaves sheets) (object_seen draft) = (kept_item depths leaves sheets word at (Ok (record { value = object_seen draft; next = next })) few_leaves few_sheets read).0 in
      record {
        before = d.leaves_before;
        held = d.good.sound;
        shape = shape_sound depths leaves sheets draft.tables draft.shape draft.no_shadow few d;
        few_leaves = omega (arith, d.good.few_leaves, d.leaves_before);
        few_sheets = omega (arith, d.good.few_sheets, d.sheets_before);
      }
