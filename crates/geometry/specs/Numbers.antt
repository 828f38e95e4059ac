-- Products and quotients of whole numbers, as the code has them.
use Rattle.std.specs.Prelude.{ℤ, ◌+ℤ◌, ◌*ℤ◌, ◌≤ℤ◌, ◌<ℤ◌}

-- the product, shut, so that a sum of products is linear in them
infixl 7 ◌·◌
unfoldable pub ◌·◌ : ℤ → ℤ → ℤ
a · b = a *ℤ b

-- q is a / d rounded down
pub record Floor (a d q : ℤ) : Type 0 where
  pub low : (q *ℤ d) ≤ℤ a
  pub high : a <ℤ (q *ℤ d +ℤ d)
