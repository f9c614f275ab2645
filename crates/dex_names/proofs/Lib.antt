pub mod SpelledLaws
