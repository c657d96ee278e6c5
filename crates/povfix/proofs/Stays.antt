-- How names stay as they were, from one call of a shelf to the next.
use Rattle.std.specs.Result.{IfErr}
use Rattle.std.proofs.Common.{Result, Ok, Err, ◌≡◌, ◌≢◌, ℕ, List, ap, arith, subst}
use Rattle.shelf.specs.Disk.{Holds, Images, Slots, SameContents, SameOthers, SameSlots, name_at}
use Rattle.shelf.specs.Moments.{Passes}
use Rattle.shelf.proofs.Steps.{goes_on, started, then_run, weaker}
use Rattle.povfix.specs.declared.ending.Ending.{Ending}
use Rattle.povfix.specs.declared.outcome.Fault.TheVariants.{ShelfFault}
use Rattle.povfix.specs.Moments.{AllStay, OthersStay}

-- before the first call
pub all_stay : (now : ℕ) (images : Images) → AllStay now now images images
all_stay now images = started now images (λ n c. images now n c) (λ n c left. left)

pub others_stay : (name : List ℕ) (now : ℕ) (images : Images) → OthersStay name now now images images
others_stay name now images = started now images (λ n c. n ≢ name → images now n c) (λ n c left other. left)

-- one call more, which leaves all
pub all_on : (before mid now : ℕ) (old half new : Images) → AllStay before mid old half → Passes mid now half new → SameContents (half mid) (new now) → AllStay before now old new
all_on before mid now old half new run call same =
    goes_on before mid now old half new (λ n c. old before n c) run call (λ n c left. run.each mid n c run.later (omega arith) (same n c left))

-- one call more, which leaves all other names
pub others_on : (name : List ℕ) (before mid now : ℕ) (old half new : Images) → OthersStay name before mid old half → Passes mid now half new → SameOthers name (half mid) (new now) → OthersStay name before now old new
others_on name before mid now old half new run call same =
    goes_on before mid now old half new (λ n c. n ≢ name → old before n c) run call (λ n c left other. run.each mid n c run.later (omega arith) (same n c other left) other)

-- where all stay, the others do
pub others_of : (name : List ℕ) (before now : ℕ) (old new : Images) → AllStay before now old new → OthersStay name before now old new
others_of name before now old new run = weaker before now old new (λ n c. n ≢ name → old before n c) (λ n c. old before n c) run (λ n c left other. left)

-- a run more, over which they stay
pub others_then : (name : List ℕ) (before mid now : ℕ) (old half new : Images) → OthersStay name before mid old half → OthersStay name mid now half new → OthersStay name before now old new
others_then name before mid now old half new run further =
    then_run before mid now old half new (λ n c. n ≢ name → old before n c) (λ n c. n ≢ name → half mid n c) run further
    (λ n c left other. run.each mid n c run.later (omega arith) (left other) other)

-- what a crash may leave at the end is among it
pub others_now : (name : List ℕ) (before now : ℕ) (old new : Images) → OthersStay name before now old new → SameOthers name (old before) (new now)
others_now name before now old new run = λ n c other left. run.each now n c run.later (omega arith) left other

-- ---- the calls that write a file

module _ (slots : Slots) (slot : ℕ) (m m' : ℕ) (images images' : Images) where
  abbrev here : List ℕ
  here = name_at (slots slot)

  pub write_stays : Passes m m' images images' → SameOthers here (images m) (images' m') → OthersStay here m m' images images'
  write_stays call same = others_on here m m m' images images images' (others_stay here m images) call same

  pub cut_stays : (slots' : Slots) (m'' : ℕ) (images'' : Images) → SameSlots slots slots' → OthersStay here m m' images images' → Passes m' m'' images' images'' → SameOthers (name_at (slots' slot)) (images' m') (images'' m'') → OthersStay here m m'' images images''
  cut_stays slots' m'' images'' held run call same =
      others_on here m m' m'' images images' images'' run call (subst (λ n. SameOthers n (images' m') (images'' m'')) (ap name_at (held slot)) same)

  pub sync_stays : (m'' : ℕ) (images'' : Images) → OthersStay here m m' images images' → Passes m' m'' images' images'' → SameContents (images' m') (images'' m'') → OthersStay here m m'' images images''
  sync_stays m'' images'' run call same = others_on here m m' m'' images images' images'' run call (λ n c other left. same n c left)

-- the slots are given up, and one is taken
pub held_stays : (m m' m'' : ℕ) (images images' images'' : Images) → Passes m m' images images' → SameContents (images m) (images' m') → Passes m' m'' images' images'' → SameContents (images' m') (images'' m'') → AllStay m m'' images images''
held_stays m m' m'' images images' images'' gives same holds same' =
    all_on m m' m'' images images' images'' (all_on m m m' images images images' (all_stay m images) gives same) holds same'

-- a file is written behind that
pub stored_stays : (before now : Slots) (slot : ℕ) (name : List ℕ) (most : ℕ) (m m' m'' : ℕ) (images images' images'' : Images) → Holds before now slot name most → AllStay m m' images images' → OthersStay (name_at (now slot)) m' m'' images' images'' → OthersStay name m m'' images images''
stored_stays before now slot name most m m' m'' images images' images'' holds held written =
    others_then name m m' m'' images images' images'' (others_of name m m' images images' held)
    (subst (λ n. OthersStay n m' m'' images' images'') (ap name_at holds.filled) written)

-- ---- a frame that stores one file

pub stays_as : (name name' : List ℕ) (m m' : ℕ) (images images' : Images) → name ≡ name' → OthersStay name m m' images images' → OthersStay name' m m' images images'
stays_as name name' m m' images images' same run = subst (λ n. OthersStay n m m' images images') same run

-- nothing is stored yet, whatever the fault is
pub all_kept : (now : ℕ) (images : Images) (ending : Ending) → ending.fault ≢ ShelfFault → AllStay now now images images
all_kept now images ending other = all_stay now images

pub every_err : {T E : Type 0} → (Q : E → Type 0) (r : Result T E) → ((e : E) → Q e) → IfErr r Q
every_err Q (Ok t) all = tt
every_err Q (Err x) all = all x
