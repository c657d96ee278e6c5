-- What a seat of the pool knows, in words, and how its view changes.
use Rattle.std.specs.Prelude.{◌≡◌, ◌⊎◌, ℕ, ◌+◌, ◌-◌, ◌<◌, ◌≤◌, true, false, List, [], ◌∷◌, ◌++◌, length, slice_index, slice_set, Some, None, nat_le, ◌||◌}
use Rattle.block_pool.specs.Counting.{times, mark_in}
use Rattle.block_pool.specs.declared.view.Terms.{Terms}
use Rattle.block_pool.specs.declared.view.View.{View}

module _ {K : Type 0} where
  -- the blocks to trace
  abbrev pub list_of : Terms K → List ℕ
  list_of terms = terms.todo.value.items

  -- the number i is the place of the block x in the list
  abbrev pub IsPlace : Terms K → ℕ → ℕ → Type 0
  IsPlace terms x i = (i < length (list_of terms)) × (slice_index (list_of terms) i ≡ x)

  -- the block stands in the list at a place below the number
  abbrev pub StandsBelow : Terms K → ℕ → ℕ → Type 0
  StandsBelow terms number x = (i : ℕ) × (i < number) × IsPlace terms x i

  -- the block was known at the start, or stands in the list at a place whose bit is set
  abbrev pub IsCommitted : (K → ℕ → Type 0) → Terms K → (ℕ → ℕ) → ℕ → Type 0
  IsCommitted knew terms marks x = knew terms.start.value x ⊎ ((i : ℕ) × IsPlace terms x i × (mark_in marks i ≡ 1))

  -- the seat drew the block's place
  abbrev pub IsDrawnBy : Terms K → View K → ℕ → Type 0
  IsDrawnBy terms v x = (i : ℕ) × IsPlace terms x i × (0 < times i v.drawn)

  -- the mark words, as a seat read them
  abbrev pub words_known : View K → ℕ → ℕ
  words_known v j = slice_index v.known j

  -- the view after a number was drawn
  abbrev pub drew : Terms K → View K → ℕ → View K
  drew terms v number = record v { drawn = v.drawn ++ number ∷ []; through = nat_le (length (list_of terms)) number }

  -- the view of a seat that got the turn
  abbrev pub in_turn : View K → View K
  in_turn v = record v { turn = true; known = []; kept = None }

  -- the view of a seat that found the pen out
  abbrev pub missed : View K → View K
  missed v = record v { misses = v.misses + 1 }

  -- the view after the next mark word was read
  abbrev pub read : View K → ℕ → View K
  read v word = record v { known = v.known ++ word ∷ [] }

  -- the view after the next number was read
  abbrev pub kept : View K → ℕ → View K
  kept v number = record v { kept = Some number }

  -- the view of a seat that took the pen out
  abbrev pub lifted : View K → View K
  lifted v = record v { lifted = true }

  -- the view after the number i was marked, by which its mark word became `word`
  abbrev pub marked : View K → ℕ → ℕ → ℕ → View K
  marked v i j word = record v { known = slice_set v.known j word; marked = v.marked ++ i ∷ [] }

  -- the view of a seat that gave the pen back
  abbrev pub gave : View K → View K
  gave v = record v { turn = false; lifted = false; known = []; kept = None }

  -- the view that is left when one part is given away, and that of the part
  abbrev pub parted : View K → View K
  parted v = record v { parts = v.parts - 1 }

  abbrev pub part_of : View K → View K
  part_of v = record { terms = v.terms; parts = 1; drawn = []; marked = []; through = v.through; misses = 0; turn = false; lifted = false; known = []; kept = None }

  -- two views in one, and what is left of the second
  abbrev pub joined : View K → View K → View K
  joined v w = record v { parts = v.parts + w.parts; drawn = v.drawn ++ w.drawn; marked = v.marked ++ w.marked; through = v.through || w.through }

  abbrev pub spent : View K
  spent = record { terms = None; parts = 0; drawn = []; marked = []; through = false; misses = 0; turn = false; lifted = false; known = []; kept = None }

  -- the view with these mark words read
  abbrev pub knowing : View K → List ℕ → View K
  knowing v words = record v { known = words }

  -- A view after some numbers were marked: all but the marks and the words is as before.
  pub record IsMarking (v w : View K) : Type 0 where
    pub told : w.terms ≡ v.terms
    pub parts : w.parts ≡ v.parts
    pub drawn : w.drawn ≡ v.drawn
    pub through : w.through ≡ v.through
    pub misses : w.misses ≡ v.misses
    pub turn : w.turn ≡ v.turn
    pub lifted : w.lifted ≡ v.lifted
    pub kept : w.kept ≡ v.kept
    pub words : length w.known ≡ length v.known

  -- A view after numbers of the list were marked, all of them drawn by the seat and with blocks that the pen knows.
  pub record MarksDrawn (knows : ℕ → Type 0) (list : List ℕ) (v w : View K) : Type 0 where
    pub grown : (i : ℕ) → times i v.marked ≤ times i w.marked
    pub only : (i : ℕ) → (times i w.marked ≡ times i v.marked) ⊎ ((i < length list) × knows (slice_index list i) × (0 < times i v.drawn))
