-- What is wrong with a cloud file, and what is said of it.
use Rattle.std.specs.Prelude.{ℕ, List, ◌++◌, codes, Err, ⊤}
use Rattle.heat_value.specs.Path.{path_text}
use Rattle.heat_value.specs.Reading.{HasNoReading}
use Rattle.cloud_file.specs.Files.{ReadsBytes}
use Rattle.heat_converge.specs.declared.file_fault.FileFault.{FileFault}
use Rattle.heat_converge.specs.declared.file_fault.FileFault.TheVariants.{OutOfReach, NotJson, Shape}
use Rattle.heat_converge.specs.declared.kept_cloud.KeepFault.{KeepFault}
use Rattle.heat_converge.specs.declared.kept_cloud.KeepFault.TheVariants.{File, Memory}

-- the second line on standard error
abbrev pub line_of : FileFault → List ℕ
line_of OutOfReach = codes "it can't be read or written"
line_of NotJson = codes "it is no JSON"
line_of (Shape path) = codes "its shape is wrong at " ++ path_text path

-- why bytes that were read are no cloud file: each fault where the file has it, and none of reaching it
abbrev pub IsWrong : List ℕ → KeepFault → Type 0
IsWrong bytes (File OutOfReach) = ⊥
IsWrong bytes (File NotJson) = HasNoReading bytes
IsWrong bytes (File (Shape path)) = ReadsBytes bytes (Err path)
IsWrong bytes Memory = ⊤
