-- The cases of R10 to R12, with the bounds of C-12 and C-16, one table, checked by one theorem: what a set-up
-- answers where N, V, S or the base is at a bound, or next to it. So the bounds themselves are held to the rules, and not only the
-- code to the bounds.
use Prim.Native.Nat.{ℕ, ◌-◌, ◌^◌}
use mathlib.Core.Bool.{Bool, true, false}
use mathlib.Core.List.{List, [], ◌∷◌}
use mathlib.Core.Path.{refl}
use lib.ListN.{replicate}
use Rattle.common.specs.Tests.{first, every}
use Rattle.device.specs.declared.Settings.{Settings}
use Rattle.device.specs.SetUp.{total, accepted, set_up_refusal}
use Rattle.device.specs.Sizes.{max_peers, max_vectors}
use Rattle.device.proofs.BenchCases.{Case, Right}

-- N, V, S and the base; there is no section but the State Table
abbrev numbers : ℕ → ℕ → ℕ → ℕ → Settings
numbers n v s base =
    record { peers = n; vectors = v; table = s; common = 0; output = 0; base = base; protocol = 0; vendor = 0; subsystem = 0 }

-- a set-up with N, V and S, in words of the right number or not and with a region of so many bytes, and the number that the rules
-- give it
abbrev lent : Bool → ℕ → ℕ → ℕ → ℕ → ℕ → Case
lent roomy bytes n v s says =
    record { gives = set_up_refusal roomy (numbers n v s (2 ^ 32)) (replicate bytes 0) ∷ []; says = says ∷ [] }

-- one in which all that is lent is right
abbrev case : ℕ → ℕ → ℕ → ℕ → Case
case n v s says = lent true s n v s says

-- one with T and the base, and all else right
abbrev placed : ℕ → ℕ → ℕ → Case
placed t base says = record { gives = set_up_refusal true (numbers 2 1 t base) (replicate t 0) ∷ []; says = says ∷ [] }

pub cases : List Case
cases =
    -- N: 2 and 64 are taken, 1 and 65 refused with 1; 9 is accepted since C-12
    case 1 1 4096 1
    ∷ case 2 1 4096 0
    ∷ case 8 1 4096 0
    ∷ case 9 1 4096 0
    ∷ case 64 1 4096 0
    ∷ case 65 1 4096 1
    -- V: 1 and 16 are taken, 0 and 17 refused with 1; 5 is accepted since C-12
    ∷ case 2 0 4096 1
    ∷ case 2 1 4096 0
    ∷ case 2 4 4096 0
    ∷ case 2 5 4096 0
    ∷ case 2 16 4096 0
    ∷ case 2 17 4096 1
    -- both at once
    ∷ case 64 16 4096 0
    -- S = 0 or 4100 refused, 4096 taken
    ∷ case 2 1 0 1
    ∷ case 2 1 4100 1
    -- a base below 100000h is refused with 1, also where the region ends there or beyond; 100000h itself is taken
    ∷ placed 4096 0 1
    ∷ placed 4096 0xFF000 1
    ∷ placed 8192 0xFF000 1
    ∷ placed 4096 0x100000 0
    ∷ placed 4096 0x101000 0
    -- base + T at most 2^64
    ∷ placed 4096 (2 ^ 64 - 4096) 0
    ∷ placed 8192 (2 ^ 64 - 4096) 1
    -- what is lent: 1 whatever the words, then 10, then 2
    ∷ lent false 4096 65 1 4096 1
    ∷ lent false 4095 2 17 4096 1
    ∷ lent false 4096 2 1 4096 10
    ∷ lent false 4095 2 1 4096 10
    ∷ lent true 4095 2 1 4096 2
    ∷ []

-- each case by computation
pub set_ups : Right cases
unfolding cases first every total accepted set_up_refusal max_peers max_vectors
set_ups = (
  refl,
  (
    refl,
    (
      refl,
      (
        refl,
        (
          refl,
          (
            refl,
            (
              refl,
              (
                refl,
                (
                  refl,
                  (
                    refl,
                    (
                      refl,
                      (
                        refl,
                        (
                          refl,
                          (
                            refl,
                            (
                              refl,
                              (refl, (refl, (refl, (refl, (refl, (refl, (refl, (refl, (refl, (refl, (refl, (refl, tt)))))))))))),
                            ),
                          ),
                        ),
                      ),
                    ),
                  ),
                ),
              ),
            ),
          ),
        ),
      ),
    ),
  ),
)
