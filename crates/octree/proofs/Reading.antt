-- What reading a region rests on.
use Rattle.std.proofs.Common.{◌≡◌, ℕ, zero, suc, ◌<◌, ◌≤◌, Bool, List, length, get_or, sym, ap, ◌∙◌, subst, ⊎_elim, arith}
use Rattle.std.proofs.lemmas.Bool.{cases_lt}
use Rattle.block.specs.declared.cells.Cell.{Cell}
use Rattle.octree.specs.declared.cells.Child.{Child}
use Rattle.octree.specs.declared.cells.Child.TheVariants.{Empty, Solid, Split}
use Rattle.octree.specs.declared.cells.Group.{Group}
use Rattle.octree.specs.Regions.{width, start_of}
use Rattle.octree.specs.Trees.{children_of, child_at, which_child, minus, solid_at, has_group, has, uses}
use Rattle.octree.specs.OnTheWay.{Readable, There, Tight}
use Rattle.octree.proofs.Trees.{tight_child, uses_child, one_self}

-- no single cell is split
pub split_above : (gs : List Group) (n : ℕ) (r : Child) → Tight gs n r → has_group r ≡ 1 → 1 ≤ n
split_above gs zero r t e = absurd (omega arith)
split_above gs (suc n) r t e = omega arith

uses_own : (gs : List Group) (n : ℕ) (r : Child) (i : ℕ) → has r i ≤ uses gs n r i
uses_own gs zero r i = omega arith
uses_own gs (suc n) r i = omega arith

pub readable_there : (gs : List Group) (n : ℕ) (r : Child) → Readable gs n r → There gs r
readable_there gs n Empty h = tt
readable_there gs n Solid h = tt
readable_there gs n (Split g) h = ⊎_elim (λ l. l) (λ l. absurd (omega (arith, h.there g.index l, uses_own gs n (Split g) g.index, one_self g.index))) (cases_lt g.index (length gs))

pub readable_child : (gs : List Group) (n : ℕ) (r : Child) → Readable gs (suc n) r → (k : ℕ) → k < 8 → Readable gs n (child_at gs r k)
readable_child gs n r h k l = record {
  tight = tight_child gs n r h.tight k l;
  there = λ i p. omega (arith, h.there i p, uses_child gs n r i k l);
}

-- the same by what the code has of it
pub readable_part : (gs : List Group) (n lv : ℕ) (r : Child) (cs : List Child) → lv ≡ suc n → cs ≡ children_of gs r → Readable gs lv r → (k : ℕ) → k < 8 → Readable gs n (get_or cs k Empty)
readable_part gs n lv r cs el ec h k l = subst (λ (ds : List Child). Readable gs n (get_or ds k Empty)) (sym ec) (readable_child gs n r (subst (λ m. Readable gs m r) el h) k l)

pub look_step : (gs : List Group) (n lv h k : ℕ) (r : Child) (cs : List Child) (c d : Cell) (b : Bool) → lv ≡ suc n → h ≡ width n → cs ≡ children_of gs r → k ≡ which_child h c → d ≡ minus c (start_of h k) → b ≡ solid_at gs n (get_or cs k Empty) d → b ≡ solid_at gs lv r c
look_step gs n lv h k r cs c d b el eh ec ek ed eb =
    eb
    ∙ ap (λ (ds : List Child). solid_at gs n (get_or ds k Empty) d) ec
    ∙ ap (solid_at gs n (child_at gs r k)) ed
    ∙ ap (λ j. solid_at gs n (child_at gs r j) (minus c (start_of h j))) ek
    ∙ ap (λ w. solid_at gs n (child_at gs r (which_child w c)) (minus c (start_of w (which_child w c)))) eh
    ∙ sym (ap (λ m. solid_at gs m r c) el)
