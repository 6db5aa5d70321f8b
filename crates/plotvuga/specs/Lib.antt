-- What a C caller may conclude from a contract: its outcome is the only one (Fixed).
pub mod Fixed
