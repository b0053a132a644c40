-- What stands behind a word is one word, or one text, at most.
use Rattle.std.proofs.Common.{◌≡◌, ◌<◌, ℕ, List, length, sym, subst}
use Rattle.script_lines.specs.Words.{AreSpaces, BeginsWith, StandsBehindSpaces}
use Rattle.script_lines.specs.Behind.{IsLone, IsText, IsWordAndText}
use Rattle.script_lines.proofs.WordLemmas.{no_word, word_unique, text_unique}

pub lone_unique : (rest w v : List ℕ) → IsLone rest w → IsLone rest v → w ≡ v
lone_unique rest w v a b = (word_unique rest w v a.last b.last a.begins b.begins).0

-- a first word that isn't the last leaves no lone word
pub lone_ends : (rest w last v : List ℕ) → BeginsWith rest w last → IsLone rest v → AreSpaces last
lone_ends rest w last v begins a = subst AreSpaces (sym (word_unique rest w v last a.last begins a.begins).1) a.alone

pub lone_begins : (rest v : List ℕ) → AreSpaces rest → IsLone rest v → ⊥
lone_begins rest v spaces a = no_word rest v a.last a.begins spaces

pub behind_one : (rest s t : List ℕ) → IsText rest s → IsText rest t → s ≡ t
behind_one rest s t a b = text_unique rest s t a.behind b.behind

-- what stands behind spaces has the length of the text there
pub text_is_some : (rest s t : List ℕ) → StandsBehindSpaces rest s → IsText rest t → 0 < length s
text_is_some rest s t stands a = subst (λ (x : List ℕ). 0 < length x) (text_unique rest t s a.behind stands) a.some

-- behind the first word stands the text
pub text_at_word : (rest w more v t : List ℕ) → BeginsWith rest w more → IsWordAndText rest v t → IsText more t
text_at_word rest w more v t begins a =
    subst (λ (m : List ℕ). IsText m t) (sym (word_unique rest w v more a.more begins a.begins).1) a.text_behind

pub no_word_and_text : (rest v t : List ℕ) → AreSpaces rest → IsWordAndText rest v t → ⊥
no_word_and_text rest v t spaces a = no_word rest v a.more a.begins spaces

pub parted_unique : (rest w s v t : List ℕ) → IsWordAndText rest w s → IsWordAndText rest v t → (w ≡ v) × (s ≡ t)
parted_unique rest w s v t a b =
    let text = text_at_word rest w a.more v t a.begins b in
    ((word_unique rest w v a.more b.more a.begins b.begins).0, behind_one a.more s t a.text_behind text)
