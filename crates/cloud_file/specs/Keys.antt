-- The keys of a cloud file, and those of a resource in it.
use Rattle.std.specs.Prelude.{ℕ, List, Option, Some, None, codes, bytes_eq, if◌then◌else◌}
use Rattle.cloud_file.specs.declared.keys.Part.{Part}
use Rattle.cloud_file.specs.declared.keys.Part.TheVariants.{Alive, Broken, Delays, Faults, Late, Quotas}
use Rattle.cloud_file.specs.declared.keys.Field.{Field}
use Rattle.cloud_file.specs.declared.keys.Field.TheVariants.{Attrs, Id, Kind, Leaving, Left, Props, Ready, Token}

-- the part that a key of the file stands for
abbrev pub part_of : List ℕ → Option Part
part_of k =
    if bytes_eq k (codes "alive") then Some Alive else (
    if bytes_eq k (codes "broken") then Some Broken else (
    if bytes_eq k (codes "delays") then Some Delays else (
    if bytes_eq k (codes "faults") then Some Faults else (
    if bytes_eq k (codes "late") then Some Late else (
    if bytes_eq k (codes "quotas") then Some Quotas else None)))))

-- the field that a key of a resource stands for
abbrev pub field_of : List ℕ → Option Field
field_of k =
    if bytes_eq k (codes "attrs") then Some Attrs else (
    if bytes_eq k (codes "id") then Some Id else (
    if bytes_eq k (codes "kind") then Some Kind else (
    if bytes_eq k (codes "leaving") then Some Leaving else (
    if bytes_eq k (codes "left") then Some Left else (
    if bytes_eq k (codes "props") then Some Props else (
    if bytes_eq k (codes "ready") then Some Ready else (
    if bytes_eq k (codes "token") then Some Token else None)))))))
