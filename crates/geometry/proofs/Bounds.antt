-- How large products can be.
use Rattle.std.proofs.Common.{◌≡◌, ℕ, ◌*◌, ◌^◌, ◌<◌, ◌≤◌, ℤ, ◌*ℤ◌, nat_abs, refl, mul-le-mul, lit<, w64, to_z, of_z}
use Rattle.std.proofs.lemmas.Int.{to_z-of_z, unsigned_abs-mul, fits_signed_mul}
use Rattle.geometry.specs.Numbers.{◌·◌}

pub product_is : (a b : ℤ) → a · b ≡ a *ℤ b
unfolding ◌·◌
product_is a b = refl

-- |a| ≤ m and |b| ≤ n give |a b| ≤ m n
within : (a b : ℤ) (m n : ℕ) → nat_abs a ≤ m → nat_abs b ≤ n → nat_abs (a · b) ≤ m * n
unfolding ◌·◌
within a b m n h k = rw (unsigned_abs-mul a b) (mul-le-mul h k)

-- and the code's product is a b if m n fits
product : (a b : ℤ) (m n : ℕ) → nat_abs a ≤ m → nat_abs b ≤ n → m * n < 2 ^ 63 → to_z w64 (of_z w64 (a *ℤ b)) ≡ a · b
unfolding ◌·◌
product a b m n h k l = to_z-of_z w64 (a *ℤ b) (fits_signed_mul w64 a b m n h k l)

-- two gaps
pub gaps_product : (a b : ℤ) → nat_abs a ≤ 2 ^ 14 → nat_abs b ≤ 2 ^ 14 → to_z w64 (of_z w64 (a *ℤ b)) ≡ a · b
gaps_product a b h k = product a b (2 ^ 14) (2 ^ 14) h k (lit< tt)

pub gaps_within : (a b : ℤ) → nat_abs a ≤ 2 ^ 14 → nat_abs b ≤ 2 ^ 14 → nat_abs (a · b) ≤ 2 ^ 28
gaps_within a b = within a b (2 ^ 14) (2 ^ 14)

-- an area and a gap
pub scaled_product : (n d : ℤ) → nat_abs n ≤ 2 ^ 29 → nat_abs d ≤ 2 ^ 14 → to_z w64 (of_z w64 (n *ℤ d)) ≡ n · d
scaled_product n d h k = product n d (2 ^ 29) (2 ^ 14) h k (lit< tt)

pub scaled_within : (n d : ℤ) → nat_abs n ≤ 2 ^ 29 → nat_abs d ≤ 2 ^ 14 → nat_abs (n · d) ≤ 2 ^ 43
scaled_within n d = within n d (2 ^ 29) (2 ^ 14)
