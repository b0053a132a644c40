-- The six digests, by name.
use Rattle.std.specs.Prelude.{◌≡◌, ℕ, List, codes, ◌⊎◌}
use Rattle.md5.specs.Md5.{md5 as md5_of}
use Rattle.sha1.specs.Sha1.{sha1 as sha1_of}
use Rattle.sha2.specs.Sha256.{sha224 as sha224_of, sha256 as sha256_of}
use Rattle.sha2.specs.Sha512.{sha384 as sha384_of, sha512 as sha512_of}
use Rattle.hex.specs.Hex.{encode_lower}

-- one of the six names
abbrev pub IsDigestName : List ℕ → Type 0
IsDigestName name =
    (name ≡ codes "md5") ⊎ ((name ≡ codes "sha1") ⊎ ((name ≡ codes "sha224")
    ⊎ ((name ≡ codes "sha256") ⊎ ((name ≡ codes "sha384") ⊎ (name ≡ codes "sha512")))))

-- the lower-case hex of the text's digest of that name
pub record IsDigest (name text hex : List ℕ) : Type 0 where
  pub md5 : name ≡ codes "md5" → hex ≡ encode_lower (md5_of text)
  pub sha1 : name ≡ codes "sha1" → hex ≡ encode_lower (sha1_of text)
  pub sha224 : name ≡ codes "sha224" → hex ≡ encode_lower (sha224_of text)
  pub sha256 : name ≡ codes "sha256" → hex ≡ encode_lower (sha256_of text)
  pub sha384 : name ≡ codes "sha384" → hex ≡ encode_lower (sha384_of text)
  pub sha512 : name ≡ codes "sha512" → hex ≡ encode_lower (sha512_of text)
