-- The service modes and their codes.
use Rattle.std.specs.Prelude.{cond, ℕ, eqb}
use Rattle.world.specs.declared.ServiceMode.{ServiceMode}
use Rattle.world.specs.declared.ServiceMode.TheVariants.{Normal, Independent, Inspection, Manual, OutOfService}

-- "v 0 Normal, 1 Independent, 2 Inspection, 3 Manual, 4 OutOfService"
abbrev pub mode_of : ℕ → ServiceMode
mode_of v =
    cond (eqb v 0) Normal
    (cond (eqb v 1) Independent
    (cond (eqb v 2) Inspection
    (cond (eqb v 3) Manual OutOfService)))
