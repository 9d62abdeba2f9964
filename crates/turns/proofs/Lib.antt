pub mod ClearedLaws
