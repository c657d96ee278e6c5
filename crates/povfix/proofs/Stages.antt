-- The stages of a run, by the places of its frames.
use Rattle.std.proofs.Common.{◌≡◌, ◌≢◌, ℕ, zero, suc, ◌+◌, ◌-◌, ◌<◌, ◌≤◌, ⊎_elim, List, take, Option, Some, inl, inr, sym, ◌∙◌, subst, arith}
use Rattle.std.proofs.lemmas.Bool.{cases_lt}
use Rattle.shelf.specs.Disk.{Contents, Images}
use Rattle.shelf.specs.Moments.{ByStages}
use Rattle.shelf.proofs.Steps.{one_stage, stages_then_run, started}
use Rattle.directive_machine.specs.declared.texts.Text.{Text}
use Rattle.options.specs.declared.plan.Plan.{Plan}
use Rattle.options.specs.Frames.{picture_name}
use Rattle.povfix.specs.Frames.{frame_of, frames_from, frames_of, IsBeside, IsMeaning, IsStored}
use Rattle.povfix.specs.Moments.{AllStay, IsStage, IsWhole, OthersStay}

pub from_start : (n : ℕ) → n + 0 ≡ n
from_start n = omega arith

pub from_next : (n i : ℕ) → n + suc i ≡ n + 1 + i
from_next n i = omega arith

-- different frames have pictures of different names
unfoldable pub AreApart : Plan → Type 0
AreApart plan = (i j : ℕ) → i < plan.to - plan.from + 1 → j < plan.to - plan.from + 1 → picture_name plan (plan.from + i) ≡ picture_name plan (plan.from + j) → i ≡ j

-- of the first k frames so many are stored
pub record StageAt (plan : Plan) (told : Option (List Text)) (before : Contents) (k stored : ℕ) (name file : List ℕ) : Type 0 where
  pub whole : (texts : List Text) → told ≡ Some texts → (i : ℕ) → i < stored → i < k → name ≡ picture_name plan (plan.from + i) → IsMeaning (frame_of plan (plan.from + i)) texts file
  pub beside : ((i : ℕ) → i < stored + 1 → i < k → name ≢ picture_name plan (plan.from + i)) → before name file

-- ---- as it is said of the list of frames

whole_front : (plan : Plan) (texts : List Text) (name file : List ℕ) (n g k count : ℕ) → ((i : ℕ) → i < g → i < k → name ≡ picture_name plan (n + i) → IsMeaning (frame_of plan (n + i)) texts file) → IsWhole (take g (take k (frames_from plan n count))) texts name file
unfolding frames_from
whole_front plan texts name file n zero k count all = tt
whole_front plan texts name file n (suc g) zero count all = tt
whole_front plan texts name file n (suc g) (suc k) zero all = tt
whole_front plan texts name file n (suc g) (suc k) (suc count) all = (
  λ same. subst (λ m. IsMeaning (frame_of plan m) texts file) (from_start n) (all 0 (omega arith) (omega arith) (subst (λ m. name ≡ picture_name plan m) (sym (from_start n)) same)),
  whole_front plan texts name file (n + 1) g k count
      (λ i low less same. subst (λ m. IsMeaning (frame_of plan m) texts file) (from_next n i) (all (suc i) (omega (arith, low)) (omega (arith, less)) (subst (λ m. name ≡ picture_name plan m) (sym (from_next n i)) same))),
)

beside_both : (plan : Plan) (name : List ℕ) (n g k count : ℕ) → k ≤ count → IsBeside (take g (take k (frames_from plan n count))) name → (i : ℕ) → i < g → i < k → name ≢ picture_name plan (n + i)
unfolding frames_from
beside_both plan name n zero k count le beside i low less = absurd (omega (arith, low))
beside_both plan name n (suc g) zero count le beside i low less = absurd (omega (arith, less))
beside_both plan name n (suc g) (suc k) zero le beside i low less = absurd (omega (arith, le))
beside_both plan name n (suc g) (suc k) (suc count) le beside zero low less = subst (λ m. name ≢ picture_name plan m) (sym (from_start n)) beside.0
beside_both plan name n (suc g) (suc k) (suc count) le beside (suc i) low less =
    subst (λ m. name ≢ picture_name plan m) (sym (from_next n i)) (beside_both plan name (n + 1) g k count (omega (arith, le)) beside.1 i (omega (arith, low)) (omega (arith, less)))

as_stage : (plan : Plan) (told : Option (List Text)) (before : Contents) (k g : ℕ) (name file : List ℕ) → k ≤ plan.to - plan.from + 1 → StageAt plan told before k g name file → IsStage (take k (frames_of plan)) told before g name file
as_stage plan told before k g name file le stage = record {
  whole = λ texts held. whole_front plan texts name file plan.from g k (plan.to - plan.from + 1) (stage.whole texts held);
  beside = λ apart. stage.beside (λ i low less. beside_both plan name plan.from (g + 1) k (plan.to - plan.from + 1) le apart i low less);
}

-- ---- from one frame to the next

-- each stage is one of these
stages_as : (before now : ℕ) (old new : Images) (P Q : ℕ → Contents) → ByStages before now old new Q → ((h : ℕ) → (g : ℕ) × ((n c : List ℕ) → Q h n c → P g n c)) → ByStages before now old new P
stages_as before now old new P Q run is_one = record {
  later = run.later;
  past = λ m le. ⊎_elim inl (λ has. inr ((is_one has.0).0, λ n c left. (is_one has.0).1 n c (has.1 n c left))) (run.past m le);
  each = λ m from le. let has = run.each m from le in ((is_one has.0).0, λ n c left. (is_one has.0).1 n c (has.1 n c left));
}

-- a stage of the first frames is one of one frame more
one_more_frame : (plan : Plan) (told : Option (List Text)) (before : Contents) (k h : ℕ) → (g : ℕ) × ((n c : List ℕ) → StageAt plan told before k h n c → StageAt plan told before (k + 1) g n c)
one_more_frame plan told before k h = ⊎_elim {A = h < k} {B = k ≤ h} {C = (g : ℕ) × ((n c : List ℕ) → StageAt plan told before k h n c → StageAt plan told before (k + 1) g n c)}
    (λ low. (
      h,
      λ n c stage. record {
        whole = λ texts held i lt less same. stage.whole texts held i lt (omega (arith, lt, low)) same;
        beside = λ apart. stage.beside (λ i lt less. apart i lt (omega (arith, less)));
      },
    ))
    (λ high. (
      k,
      λ n c stage. record {
        whole = λ texts held i lt less same. stage.whole texts held i (omega (arith, lt, high)) lt same;
        beside = λ apart. stage.beside (λ i lt less. apart i (omega (arith, less)) (omega (arith, less)));
      },
    ))
    (cases_lt h k)

-- before the first frame
pub no_stage : (plan : Plan) (told : Option (List Text)) (moment : ℕ) (images : Images) → ByStages moment moment images images (StageAt plan told (images moment) 0)
no_stage plan told moment images =
    one_stage moment moment images images (StageAt plan told (images moment) 0) 0
    (started moment images (StageAt plan told (images moment) 0 0) (λ n c left. record { whole = λ texts held i lt less same. absurd (omega (arith, lt)); beside = λ apart. left }))

module _ (plan : Plan) (told : Option (List Text)) (m m' m'' : ℕ) (images images' images'' : Images) (k : ℕ) (run : ByStages m m' images images' (StageAt plan told (images m) k)) where
  -- what a crash may leave between two frames
  here : (g : ℕ) × ((n c : List ℕ) → images' m' n c → StageAt plan told (images m) k g n c)
  here = run.each m' run.later (omega arith)

  -- nothing is new under the names of no frame so far
  pub beside_now : (n c : List ℕ) → ((i : ℕ) → i < k → n ≢ picture_name plan (plan.from + i)) → images' m' n c → images m n c
  beside_now n c apart left = (here.1 n c left).beside (λ i low less. apart i less)

  -- a frame that changes nothing
  pub same_stages : AllStay m' m'' images' images'' → ByStages m m'' images images'' (StageAt plan told (images m) k)
  same_stages further = stages_then_run m m' m'' images images' images'' (StageAt plan told (images m) k) (λ n c. images' m' n c) here.0 run further here.1

  -- a frame that changes its own file
  pub next_stages : AreApart plan → k < plan.to - plan.from + 1 → ((texts : List Text) → told ≡ Some texts → (i : ℕ) → i < k → IsStored (frame_of plan (plan.from + i)) texts (images' m')) → OthersStay (picture_name plan (plan.from + k)) m' m'' images' images'' → ByStages m m'' images images'' (StageAt plan told (images m) (k + 1))
  unfolding AreApart
  next_stages apart lt durable further =
      stages_then_run m m' m'' images images' images'' (StageAt plan told (images m) (k + 1)) (λ n c. n ≢ picture_name plan (plan.from + k) → images' m' n c) k
      (stages_as m m' images images' (StageAt plan told (images m) (k + 1)) (StageAt plan told (images m) k) run (one_more_frame plan told (images m) k))
      further
      (λ n c left. record {
        whole = λ texts held i low less same.
            durable texts held i low c (subst (λ name. images' m' name c) same (left (λ is. absurd (omega (arith, low, apart i k (omega (arith, low, lt)) lt (sym same ∙ is))))));
        beside = λ apart_all. beside_now n c (λ i less. apart_all i (omega (arith, less)) (omega (arith, less))) (left (apart_all k (omega arith) (omega arith)));
      })

-- the stages of so many frames, as it is said of their list
pub as_stages : (plan : Plan) (told : Option (List Text)) (m m' : ℕ) (images images' : Images) (k : ℕ) → k ≤ plan.to - plan.from + 1 → ByStages m m' images images' (StageAt plan told (images m) k) → ByStages m m' images images' (IsStage (take k (frames_of plan)) told (images m))
as_stages plan told m m' images images' k le run =
    stages_as m m' images images' (IsStage (take k (frames_of plan)) told (images m)) (StageAt plan told (images m) k) run
    (λ h. (h, λ n c stage. as_stage plan told (images m) k h n c le stage))
