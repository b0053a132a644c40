-- What a change of one half makes of both, for those who build on a disk.
use Rattle.std.proofs.Common.{◌≡◌, refl}
use Rattle.heat_disk.specs.declared.half.Half.{Half}
use Rattle.heat_disk.specs.declared.half.Half.TheVariants.{First, Second}
use Rattle.heat_disk.specs.Halves.{part, beside, changed}

pub part-changed : {A : Type 0} (half : Half) (f : A → A) (p : A × A) → part half (changed half f p) ≡ f (part half p)
part-changed First f p = refl
part-changed Second f p = refl

pub beside-changed : {A : Type 0} (half : Half) (f : A → A) (p : A × A) → beside half (changed half f p) ≡ beside half p
beside-changed First f p = refl
beside-changed Second f p = refl
