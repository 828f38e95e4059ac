use Rattle.std.proofs.Common.{◌≡◌, ◌<◌, ◌≤◌, drop}
use Rattle.pattern.specs.Text.{all_digits, read_on}
use Rattle.pattern.proofs.word.plain_number.Given as goal

abbrev pub invariant-loop-d : goal.invariant-loop-d
invariant-loop-d l =
    (read_on l.value (drop l.d-index l.digits) ≡ read_on 0 l.digits) × (all_digits (drop l.d-index l.digits) ≡ all_digits l.digits)
    × (l.d-index ≤ 0 → l.value < 1) × (l.d-index ≤ 1 → l.value < 10) × (l.d-index ≤ 2 → l.value < 100)
    × (l.d-index ≤ 3 → l.value < 1000) × (l.d-index ≤ 4 → l.value < 10000) × (l.d-index ≤ 5 → l.value < 100000)
