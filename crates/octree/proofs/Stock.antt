-- Taking and freeing groups.
use Rattle.std.proofs.Common.{◌≡◌, ℕ, zero, suc, ◌+◌, ◌-◌, ◌<◌, ◌≤◌, eqb, leb, Option, Some, None, List, length, get_or, set, sym, refl, ap, ◌∙◌, subst, ⊎_elim, add-one, arith}
use Rattle.std.proofs.lemmas.List.{get_or-set_same, get_or-set_other, length-set}
use Rattle.std.proofs.lemmas.Bool.{cond-true, cond-false, le-leb, lt-leb, eq-eqb, ne_eqb, cases_eq, cases_lt}
use Rattle.octree.specs.declared.cells.Child.{Child}
use Rattle.octree.specs.declared.cells.Child.TheVariants.{Empty, Solid, Split}
use Rattle.octree.specs.declared.cells.Group.{Group}
use Rattle.octree.specs.declared.cells.GroupId.{GroupId}
use Rattle.octree.specs.declared.store.Store.{Store}
use Rattle.octree.specs.Trees.{no_group, one, group_of, freed_before, FreedList, freed_at, idle, Counted}
use Rattle.octree.specs.OnTheWay.{There, left, Apart, Taken, Freed}
use Rattle.octree.proofs.Trees.{one_self}

pub one_eq : (i j : ℕ) → i ≡ j → one (eqb i j) ≡ 1
one_eq i j e = cond-true (eqb i j) 1 0 (eq-eqb i j e)

pub one_ne : (i j : ℕ) → (i ≡ j → ⊥) → one (eqb i j) ≡ 0
one_ne i j e = cond-false (eqb i j) 1 0 (ne_eqb i j e)

pub one_le : (i j : ℕ) → i ≤ j → one (leb i j) ≡ 1
one_le i j l = cond-true (leb i j) 1 0 (le-leb i j l)

pub one_gt : (i j : ℕ) → j < i → one (leb i j) ≡ 0
one_gt i j l = cond-false (leb i j) 1 0 (lt-leb i j l)

-- the mark moves on past one group
mark_more : (m i : ℕ) → one (leb m i) ≡ one (eqb m i) + one (leb (m + 1) i)
mark_more m i = ⊎_elim
    (λ e. omega (arith, one_le m i (omega (arith, e)), one_eq m i e, one_gt (m + 1) i (omega (arith, e))))
    (λ e. ⊎_elim
    (λ l. omega (arith, one_gt m i l, one_ne m i e, one_gt (m + 1) i (omega arith)))
    (λ l. omega (arith, one_le m i l, one_ne m i e, one_le (m + 1) i (omega (arith, e))))
    (cases_lt i m))
    (cases_eq m i)

-- groups that are not freed may change
module _ (gs gs' : List Group) where
  before_same : (g : GroupId) → get_or gs' g.index no_group ≡ get_or gs g.index no_group → freed_before gs' g ≡ freed_before gs g
  before_same g e = ap (λ (x : Group). group_of (get_or x.children 0 Empty)) e

  pub freed_frame : (m : ℕ) (l : Option GroupId) → ((i : ℕ) → 0 < freed_at gs m l i → get_or gs' i no_group ≡ get_or gs i no_group) → (i : ℕ) → freed_at gs' m l i ≡ freed_at gs m l i
  freed_frame zero l a i = refl
  freed_frame (suc m) None a i = refl
  freed_frame (suc m) (Some g) a i =
      ap (λ t. one (eqb g.index i) + t)
      (ap (λ (l : Option GroupId). freed_at gs' m l i) (before_same g (a g.index (omega (arith, one_self g.index)))) ∙ freed_frame m (freed_before gs g) (λ j p. a j (omega arith)) i)

  pub listed_frame : (m : ℕ) (l : Option GroupId) → ((i : ℕ) → 0 < freed_at gs m l i → get_or gs' i no_group ≡ get_or gs i no_group) → FreedList gs m l → FreedList gs' m l
  listed_frame zero None a h = h
  listed_frame zero (Some g) a h = h
  listed_frame (suc m) None a h = h
  listed_frame (suc m) (Some g) a h =
      subst (λ (l : Option GroupId). FreedList gs' m l) (sym (before_same g (a g.index (omega (arith, one_self g.index)))))
      (listed_frame m (freed_before gs g) (λ j p. a j (omega arith)) h)

-- a list of freed groups has a last one where it has any
list_none : (gs : List Group) (m : ℕ) → FreedList gs m None → m ≡ 0
list_none gs zero h = refl
list_none gs (suc m) h = absurd h

list_some : (gs : List Group) (m : ℕ) (g : GroupId) → FreedList gs m (Some g) → 1 ≤ m
list_some gs zero g h = absurd h
list_some gs (suc m) g h = omega arith

-- a freed group is there, and so is a region's
pub idle_within : (s : Store) (i : ℕ) → Counted s → idle s i ≤ 1 → 0 < freed_at s.groups.now s.freed s.last i → i < length s.groups.now
idle_within s i C a p = ⊎_elim (λ l. omega (arith, C.marked)) (λ l. absurd (omega (arith, one_le s.mark i l))) (cases_lt i s.mark)

pub own_within : (s : Store) (r : Child) → Apart s r → There s.groups.now r
own_within s Empty A = tt
own_within s Solid A = tt
own_within s (Split g) A = ⊎_elim (λ l. omega (arith, A.counted.marked)) (λ l. absurd (omega (arith, A.once g.index, one_self g.index, one_le s.mark g.index l))) (cases_lt g.index s.mark)

-- ---- taking a group

module _ (s : Store) (g : GroupId) (A : Apart s Empty) (e : s.last ≡ Some g) where
  abbrev gs : List Group
  gs = s.groups.now

  last_listed : FreedList gs s.freed (Some g)
  last_listed = subst (λ (l : Option GroupId). FreedList gs s.freed l) e A.counted.listed

  pub some_freed : 1 ≤ s.freed
  some_freed = list_some gs s.freed g last_listed

  one_more : s.freed ≡ suc (s.freed - 1)
  one_more = omega (arith, some_freed)

  last_spent : (i : ℕ) → freed_at gs s.freed s.last i ≡ one (eqb g.index i) + freed_at gs (s.freed - 1) (freed_before gs g) i
  last_spent i = ap (λ (l : Option GroupId). freed_at gs s.freed l i) e ∙ ap (λ m. freed_at gs m (Some g) i) one_more

  pub last_within : g.index < length gs
  last_within = idle_within s g.index A.counted (omega (arith, A.once g.index)) (omega (arith, last_spent g.index, one_self g.index))

  pub taken_freed : (l : Option GroupId) → l ≡ freed_before gs g → Taken s Empty g (record s { freed = s.freed - 1; last = l })
  taken_freed l f = record {
    same = refl;
    within = last_within;
    spent = λ i. omega (arith, last_spent i, ap (λ (x : Option GroupId). freed_at gs (s.freed - 1) x i) f);
    fewer = omega (arith, some_freed);
    counted = record {
      marked = A.counted.marked;
      below = omega (arith, A.counted.below);
      listed = subst (λ (x : Option GroupId). FreedList gs (s.freed - 1) x) (sym f) (subst (λ m. FreedList gs m (Some g)) one_more last_listed);
    };
  }

pub taken_fresh : (s : Store) → Apart s Empty → s.last ≡ None → 0 < left s → Taken s Empty (record { index = s.mark }) (record s { mark = s.mark + 1 })
taken_fresh s A e p =
    let z : s.freed ≡ 0 = list_none s.groups.now s.freed (subst (λ (l : Option GroupId). FreedList s.groups.now s.freed l) e A.counted.listed) in
    record {
      same = refl;
      within = omega arith;
      spent = λ i. omega (arith, mark_more s.mark i);
      fewer = omega arith;
      counted = record { marked = omega arith; below = omega arith; listed = A.counted.listed };
    }

pub taken_own : (s : Store) (g : GroupId) → Apart s (Split g) → Taken s (Split g) g s
taken_own s g A = record { same = refl; within = own_within s (Split g) A; spent = λ i. refl; fewer = refl; counted = A.counted }

-- ---- freeing one

-- the store with other groups in its memory
abbrev pub with_groups : Store → List Group → Store
with_groups s gs = record s { groups = record s.groups { now = gs } }

pub freed_again : (s s' : Store) (g : GroupId) (l : Child) (cs : List Child) → Apart s (Split g) → 0 < length cs → group_of l ≡ s.last
    → s'.groups.ghost_name ≡ s.groups.ghost_name → s'.groups.now ≡ set s.groups.now g.index (record { children = set cs 0 l }) → s'.mark ≡ s.mark → s'.freed ≡ s.freed + 1 → s'.last ≡ Some g
    → Freed s (Split g) s'
freed_again s s' g l cs A some el lent e em ef es = record {
  lent = lent;
  long = long;
  kept = λ i z. kept i (λ f. omega (arith, z, one_eq g.index i (sym f)));
  back = λ i. omega (arith, chain i, ap (λ m. one (leb m i)) em);
  more = omega (arith, long, em, ef, A.few);
  counted = record {
    marked = omega (arith, A.counted.marked, long, em);
    below = omega (arith, A.few, A.counted.marked, em, ef);
    listed = subst (λ m. FreedList s'.groups.now m s'.last) (sym (ef ∙ add-one s.freed)) (subst (λ (x : Option GroupId). FreedList s'.groups.now (suc s.freed) x) (sym es) (subst (λ (x : Option GroupId). FreedList s'.groups.now s.freed x) (sym here) (listed_frame s.groups.now s'.groups.now s.freed s.last apart A.counted.listed)));
  };
}
  where
    long : length s'.groups.now ≡ length s.groups.now
    long = ap length e ∙ length-set s.groups.now g.index _

    kept : (i : ℕ) → (i ≡ g.index → ⊥) → get_or s'.groups.now i no_group ≡ get_or s.groups.now i no_group
    kept i ne = ap (λ (x : List Group). get_or x i no_group) e ∙ get_or-set_other s.groups.now g.index i _ no_group ne

    here : freed_before s'.groups.now g ≡ s.last
    here = ap (λ (x : List Group). freed_before x g) e
        ∙ ap (λ (x : Group). group_of (get_or x.children 0 Empty)) (get_or-set_same s.groups.now g.index (record { children = set cs 0 l }) no_group (own_within s (Split g) A))
        ∙ ap group_of (get_or-set_same cs 0 l Empty some)
        ∙ el

    apart : (i : ℕ) → 0 < freed_at s.groups.now s.freed s.last i → get_or s'.groups.now i no_group ≡ get_or s.groups.now i no_group
    apart i p = kept i (λ f. omega (arith, A.once i, p, one_eq g.index i (sym f)))

    chain : (i : ℕ) → freed_at s'.groups.now s'.freed s'.last i ≡ one (eqb g.index i) + freed_at s.groups.now s.freed s.last i
    chain i =
        ap (λ m. freed_at s'.groups.now m s'.last i) (ef ∙ add-one s.freed)
        ∙ ap (λ (x : Option GroupId). freed_at s'.groups.now (suc s.freed) x i) es
        ∙ ap (λ m. one (eqb g.index i) + m) (ap (λ (x : Option GroupId). freed_at s'.groups.now s.freed x i) here ∙ freed_frame s.groups.now s'.groups.now s.freed s.last apart i)
