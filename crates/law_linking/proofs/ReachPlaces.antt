-- An order of classes of which none depends on itself: each stands after those above it.
use Rattle.std.specs.Prelude.{ℕ, suc, ◌≡◌, ◌<◌, Bool, true, false, length}
use Rattle.std.proofs.Common.{refl, ⊎_elim, arith}
use Rattle.dv_defs.specs.Images.{Image}
use Rattle.dv_defs.specs.Order.{has_number, above, any_of, implements}
use Rattle.law_linking.specs.Stripped.{AreInRange}
use Rattle.law_linking.proofs.Reach.{any_has, any_gives, reaches_up, reaches_bounded, reached_at_once, above_in, count, count_most, count_same, less_or_not}

count_less : (p q : ℕ → Bool) (n : ℕ) → ((d : ℕ) → d < n → p d ≡ true → q d ≡ true) → (k : ℕ) → k < n → p k ≡ false → q k ≡ true → count p n < count q n
count_less p q n more k within fails passes =
    ⊎_elim
    (λ less. less)
    (λ same. absurd (let holds = count_same p q n more same k within passes in cc))
    (less_or_not (count p n) (count q n))

count_below : (p : ℕ → Bool) (n k : ℕ) → k < n → p k ≡ false → count p n < n
count_below p n k within fails =
    let fewer = count_less p (λ d. true) n (λ d below holds. refl) k within fails refl in
    let most = count_most (λ d. true) n in
    omega arith

-- how many classes are reached from those directly above a class
pub place : Image → ℕ → ℕ
place image c = count (λ t. any_of (λ b. implements image b t) (above image c)) (length image.classes)

-- no class depends on itself
abbrev pub IsAcyclic : Image → Type 0
IsAcyclic image = (c : ℕ) → c < length image.classes → any_of (λ d. implements image d c) (above image c) ≡ false

pub place_bounded : (image : Image) → IsAcyclic image → (c : ℕ) → c < length image.classes → place image c < length image.classes
unfolding place
place_bounded image acyclic c within =
    count_below (λ t. any_of (λ b. implements image b t) (above image c)) (length image.classes) c within (acyclic c within)

-- what is reached from those above a class is reached from those above each class under it
reached_from_under : (image : Image) → AreInRange image.classes → (c d t : ℕ) → has_number d (above image c) ≡ true → any_of (λ b. implements image b t) (above image d) ≡ true → any_of (λ b. implements image b t) (above image c) ≡ true
reached_from_under image range c d t has =
    any_gives (λ b. implements image b t) (above image d)
    (λ b up reached. any_has (λ b. implements image b t) d (above image c) has (reaches_bounded image range (suc (suc (length image.classes))) t d (above_in image range c d has) (reaches_up image (suc (length image.classes)) t d b up reached)))

pub place_rises : (image : Image) → AreInRange image.classes → IsAcyclic image → (c d : ℕ) → has_number d (above image c) ≡ true → place image d < place image c
unfolding place
place_rises image range acyclic c d has =
    let within = above_in image range c d has in
    count_less (λ t. any_of (λ b. implements image b t) (above image d)) (λ t. any_of (λ b. implements image b t) (above image c)) (length image.classes) (λ t _ reached. reached_from_under image range c d t has reached) d within (acyclic d within) (reached_at_once image c d has)
