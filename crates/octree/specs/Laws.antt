-- What the meaning of a block asks of an octree.
use Rattle.std.specs.Prelude.{◌≡◌, ℕ, zero, suc, ◌+◌, ◌*◌, ◌≤◌, Bool, true, false, if◌then◌else◌, ◌||◌, List, length, nat_lt, refl}
use Rattle.std.proofs.Common.{◌∙◌, sym, ap, subst}
use Rattle.std.proofs.Math.Nat.{zero-add, le_trans, le-add_right, min-le_left}
use Rattle.std.proofs.lemmas.Bool.{cond-false, cond-true, le-leb, le-ltb}
use mathlib.Core.Path.{fun_ext}
use Rattle.block.specs.declared.cells.Cell.{Cell}
use Rattle.block.specs.Drawing.{blank}
use Rattle.octree.specs.declared.Octree.{Octree}
use Rattle.octree.specs.declared.cells.Child.{Child}
use Rattle.octree.specs.declared.cells.Group.{Group}
use Rattle.octree.specs.declared.store.Store.{Store}
use Rattle.octree.specs.Meaning.{Tied}
use Rattle.octree.specs.Regions.{all8, all_are, level_of, mixed, need_of, needed, origin, plus, room, start_of, sum8, width}
use Rattle.octree.specs.Trees.{shown, Whole}

-- a blank drawing needs no group
blank_alike : (n : ℕ) (c : Cell) → all_are false n (λ a. false) c ≡ true
blank_alike zero c = refl
blank_alike (suc n) c = ap all8 (fun_ext (λ k. blank_alike n (plus c (start_of (width n) k))))

blank_unmixed : (n : ℕ) (c : Cell) → mixed n (λ a. false) c ≡ 0
blank_unmixed n c = either (all_are true n (λ a. false) c) (all_are false n (λ a. false) c) (blank_alike n c)
  where
    either : (a b : Bool) → b ≡ true → ◌≡◌ {A = ℕ} (if a || b then 0 else 1) 0
    either true b e = refl
    either false b e = cond-true b 0 1 e

pub blank_need : (n : ℕ) (c : Cell) → need_of n (λ a. false) c ≡ 0
blank_need zero c = refl
blank_need (suc n) c =
    ap (λ m. m + sum8 (λ k. need_of n (λ a. false) (plus c (start_of (width n) k)))) (blank_unmixed (suc n) c)
    ∙ ap (λ (f : ℕ → ℕ). 0 + sum8 f) (fun_ext (λ k. blank_need n (plus c (start_of (width n) k))))

-- the blank drawing fits in any number of groups
pub blank_fits : (n m : ℕ) → room n m blank ≡ true
unfolding needed room
blank_fits n m = le-leb (needed n blank) m (subst (λ k. k ≤ m) (sym (blank_need (level_of n) origin)) (subst (λ k. 0 ≤ k) (zero-add m) (le-add_right 0 m)))

-- what a sound octree shows fits
pub shown_fits : (n : ℕ) (s : Store) (r : Child) → Whole n s r → room n (length s.groups.now) (shown n s.groups.now r) ≡ true
unfolding room
shown_fits n s r w =
    le-leb (needed n (shown n s.groups.now r)) (length s.groups.now)
    (subst (λ k. k ≤ length s.groups.now) w.exact
    (le_trans (le-add_right _ s.freed)
    (subst (λ k. k ≤ length s.groups.now) (sym w.count)
    (le_trans w.counted.marked (min-le_left (length s.groups.now) 4294967295)))))

-- no cell outside the box is solid
pub shown_within : (n : ℕ) (gs : List Group) (r : Child) (k : ℕ) → n * n * n ≤ k → shown n gs r k ≡ false
unfolding shown
shown_within n gs r k h = cond-false (nat_lt k (n * n * n)) _ false (le-ltb k (n * n * n) h)

-- an octree has its own loan, and one loan is handed on from call to call
pub tied_same : (o : Octree) → Tied o o
tied_same o = refl

pub tied_on : (o p q : Octree) → Tied o p → Tied p q → Tied o q
tied_on o p q a b = b ∙ a
