-- What a pattern says of texts, in the words of the regular expressions' own specification.
use Rattle.std.specs.Prelude.{◌≡◌, ◌⊎◌, ◌<◌, ℕ, List, [], ◌∷◌, Some, None, option_map, length, chars}
use Rattle.std.specs.Prelude.{IfSome}
use Rattle.std.specs.Prelude.{Contains, ⊤}
use Rattle.regex.specs.Patterns.{Re, find_str, span, default_config, Reads}
use Rattle.regex_hir.specs.Meaning.{meaning}
use Rattle.regex_hir.specs.declared.hir.Hir.{Hir}
use Rattle.regex_syntax.specs.Grammar.{Names, read}
use Rattle.regex.specs.declared.error.Error as regex
use Rattle.regex.specs.declared.error.Error.TheVariants as error
use Rattle.hot_params.specs.declared.pattern.Refused.{Refused}
use Rattle.hot_params.specs.declared.pattern.Refused.TheVariants as refused

-- the pattern is read as this expression
abbrev pub IsReadAsPattern : List ℕ → Re → Type 0
IsReadAsPattern pattern re =
    (hir : Hir) × (names : Names) × Reads default_config pattern hir names × (re ≡ meaning hir)

-- the leftmost match in the text is the whole of it
abbrev pub IsWhole : Re → List ℕ → Type 0
IsWhole re text = option_map span (find_str re text 0) ≡ Some (0, length text)

-- the same of each text
abbrev pub AreWhole : Re → List (List ℕ) → Type 0
AreWhole re [] = ⊤
AreWhole re (text ∷ texts) = IsWhole re text × AreWhole re texts

-- the grammar reads no pattern there, or it nests too deep
abbrev pub IsNoPattern : List ℕ → Type 0
IsNoPattern pattern =
    (read default_config (chars pattern) ≡ None)
    ⊎ IfSome (read default_config (chars pattern)) (λ (re, names). default_config.nest_limit < re.depth)

-- the pattern has more than 64 bytes, or a `{`
abbrev pub IsLong : List ℕ → Type 0
IsLong pattern = (64 < length pattern) ⊎ Contains pattern 123

-- what an error of `regex` counts as
abbrev pub refused_by : regex.Error → Refused
refused_by (error.Syntax e) = refused.Pattern
refused_by error.CompiledTooBig = refused.Other
refused_by error.Internal = refused.Other
refused_by error.OutOfMemory = refused.Memory

-- the pattern may be refused so
abbrev pub IsRefusedFor : List ℕ → Refused → Type 0
IsRefusedFor pattern refused.Pattern = IsNoPattern pattern
IsRefusedFor pattern refused.Other = ⊤
IsRefusedFor pattern refused.Memory = ⊤
